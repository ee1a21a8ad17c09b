use Rattle.std.proofs.Common.{rules, ◌≡◌, ◌++◌, ◌∷◌, [], ℕ, ℤ, List, length, Option, option_map, Some, ap, sym, subst, ◌∙◌, Bor, FitsSigned, to_z, of_z, w32}
use Rattle.std.proofs.lemmas.Int.{to_z-of_z}
use Rattle.last_entries.specs.Nearness.{before_end, from_on, IsFirstOf, IsNearBy}
use Rattle.last_entries.proofs.NearLemmas.{longer_ends, longer_finds}
use Rattle.last_entries.proofs.near.longer.Goals as goal

pub returns-in_default : goal.returns-in_default
returns-in_default g c =
    let to : Option (List ℕ) = option_map {T = Bor (List ℕ)} {U = List ℕ} (λ z. z.now) c.args.to in
    let es = before_end to (g.S.Ascending.entries c.args.source.now) in
    let key = c.args.near.now.key.items in
    let none : from_on c.deref-2.result.now es ≡ [] = search rules in
    let from : c.deref-2.result.now ≡ key ++ 0 ∷ [] = c.deref-2.ensures.value ∙ c.in_ok-from.ensures ∙ ap (λ w. w ++ 0 ∷ []) c.deref.ensures.value in
    (longer_ends es key c.deref-2.result.now from none, c.requires.near)

pub returns : goal.returns
returns g c =
    let to : Option (List ℕ) = option_map {T = Bor (List ℕ)} {U = List ℕ} (λ z. z.now) c.args.to in
    let es = before_end to (g.S.Ascending.entries c.args.source.now) in
    let near = c.args.near.now in
    let key = near.key.items in
    let found = c.first_between.new.key.items in
    let value : ℤ = c.in-Some.value in
    let from : c.deref-2.result.now ≡ key ++ 0 ∷ [] = c.deref-2.ensures.value ∙ c.in_ok-from.ensures ∙ ap (λ w. w ++ 0 ∷ []) c.deref.ensures.value in
    let first : IsFirstOf (from_on c.deref-2.result.now es) found (Some value) = subst (λ (o : Option ℤ). IsFirstOf (from_on c.deref-2.result.now es) found o) c.in-Some.is c.in_ok-value.ensures in
    let all : near.depth ≡ length key = search rules in
    let fits : FitsSigned w32 value = search rules in
    let number : to_z w32 (of_z w32 value) ≡ value = to_z-of_z w32 value fits in
    let nearer = longer_finds es key c.deref-2.result.now near.value near.depth near.highest found value first.0 c.requires.near all from first.1 in
    (subst (λ (n : ℤ). IsNearBy es found n near.depth near.highest) (sym number) nearer.0, nearer.1)
