use Rattle.std.proofs.Common.{rules, ◌≡◌, ◌++◌, ◌∷◌, [], ℕ, ℤ, List, Bool, true, Option, option_map, Some, sym, ap, subst, ◌∙◌, Bor, FitsSigned, to_z, of_z, w32}
use Rattle.std.proofs.lemmas.Int.{to_z-of_z}
use Rattle.last_entries.specs.Nearness.{before_end, from_on, IsFirstOf, IsNearBy, Nears}
use Rattle.last_entries.proofs.NearLemmas.{begins_with, is_last, listed_before, none_at_all}
use Rattle.last_entries.proofs.last.last_before.Goals as goal

pub returns-in_default : goal.returns-in_default
returns-in_default g c =
    let to : Option (List ℕ) = option_map {T = Bor (List ℕ)} {U = List ℕ} (λ z. z.now) c.args.to in
    let es = before_end to (g.S.Ascending.entries c.args.source.now) in
    let none : from_on [] es ≡ [] = search rules in
    none_at_all es none

pub loop-near-init : goal.loop-near-init
loop-near-init g c =
    let to : Option (List ℕ) = option_map {T = Bor (List ℕ)} {U = List ℕ} (λ z. z.now) c.args.to in
    let entries = g.S.Ascending.entries c.args.source.now in
    let es = before_end to entries in
    let key = c.first_between.new.key.items in
    let value : ℤ = c.in-Some.value in
    let first : IsFirstOf (from_on [] es) key (Some value) = subst (λ (o : Option ℤ). IsFirstOf (from_on [] es) key o) c.in-Some.is c.in_ok-value.ensures in
    let fits : FitsSigned w32 value = search rules in
    let number : to_z w32 (of_z w32 value) ≡ value = to_z-of_z w32 value fits in
    subst (λ (n : ℤ). IsNearBy es key n 0 255) (sym number) (begins_with es key value first.0 (listed_before to entries c.requires).1 first.1)

pub returns : goal.returns
returns g c =
    let to : Option (List ℕ) = option_map {T = Bor (List ℕ)} {U = List ℕ} (λ z. z.now) c.args.to in
    let entries = g.S.Ascending.entries c.args.source.now in
    let es = before_end to entries in
    let near = c.nearer.new.near in
    let ends : c.in_ok-nearer.field-0 ≡ true = search rules in
    let done : Nears es c.loop-near.near near true = subst (λ (b : Bool). Nears es c.loop-near.near near b) ends c.in_ok-nearer.ensures in
    let last = is_last es near.key.items near.value near.depth near.highest (listed_before to entries c.requires).0 done.1 done.0 in
    let fits : FitsSigned w32 near.value = search rules in
    let number : to_z w32 (of_z w32 near.value) ≡ near.value = to_z-of_z w32 near.value fits in
    (last.0, last.1 ∙ ap (λ (n : ℤ). last.0 ++ (near.key.items, n) ∷ []) (sym number))
