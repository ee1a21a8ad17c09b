use Rattle.std.proofs.Common.{rules, ◌≡◌, ◌+◌, ◌<◌, ◌≤◌, ◌++◌, ◌∷◌, [], ℕ, ℤ, List, length, take, get_or, Option, option_map, Some, ap, sym, subst, ◌∙◌, arith, Bor, FitsSigned, to_z, of_z, w32}
use Rattle.std.proofs.lemmas.Int.{to_z-of_z}
use Rattle.std.proofs.lemmas.List.{get_or_default}
use Rattle.last_entries.specs.Nearness.{before_end, from_on, IsFirstOf, IsNearBy}
use Rattle.last_entries.proofs.NearLemmas.{wider_finds, wider_misses}
use Rattle.last_entries.proofs.near.wider.Goals as goal

pub returns-in-Some : goal.returns-in-Some
returns-in-Some g c =
    let to : Option (List ℕ) = option_map {T = Bor (List ℕ)} {U = List ℕ} (λ z. z.now) c.args.to in
    let es = before_end to (g.S.Ascending.entries c.args.source.now) in
    let near = c.args.near.now in
    let key = near.key.items in
    let found = c.first_between.new.key.items in
    let value : ℤ = c.in-Some.value in
    let byte = c.index-byte.result.now in
    let next = byte + c.min.result in
    let within : near.depth < length key = search rules in
    let here : get_or key near.depth 0 ≡ byte = get_or_default key near.depth 0 byte within ∙ sym c.index-byte.ensures in
    let higher : get_or key near.depth 0 < near.highest = c.requires.higher in
    let least = c.max.ensures in
    let most = c.min.ensures in
    let up : get_or key near.depth 0 < next = omega (arith, here, higher, least, most) in
    let from : c.deref-2.result.now ≡ take near.depth key ++ next ∷ [] = c.deref-2.ensures.value ∙ c.in_ok-from.ensures ∙ ap (λ w. take near.depth w ++ next ∷ []) c.deref.ensures.value in
    let first : IsFirstOf (from_on c.deref-2.result.now es) found (Some value) = subst (λ (o : Option ℤ). IsFirstOf (from_on c.deref-2.result.now es) found o) c.in-Some.is c.in_ok-value.ensures in
    let fits : FitsSigned w32 value = search rules in
    let number : to_z w32 (of_z w32 value) ≡ value = to_z-of_z w32 value fits in
    let nearer = wider_finds es key c.deref-2.result.now near.value near.depth near.highest next found value first.0 c.requires.near within up from first.1 in
    (subst (λ (n : ℤ). IsNearBy es found n near.depth near.highest) (sym number) nearer.0, nearer.1)

pub returns : goal.returns
returns g c =
    let to : Option (List ℕ) = option_map {T = Bor (List ℕ)} {U = List ℕ} (λ z. z.now) c.args.to in
    let es = before_end to (g.S.Ascending.entries c.args.source.now) in
    let near = c.args.near.now in
    let key = near.key.items in
    let byte = c.index-byte.result.now in
    let next = byte + c.min.result in
    let within : near.depth < length key = search rules in
    let here : get_or key near.depth 0 ≡ byte = get_or_default key near.depth 0 byte within ∙ sym c.index-byte.ensures in
    let higher : get_or key near.depth 0 < near.highest = c.requires.higher in
    let least = c.max.ensures in
    let most = c.min.ensures in
    let up : get_or key near.depth 0 < next = omega (arith, here, higher, least, most) in
    let under : next ≤ near.highest = omega (arith, here, higher, least, most) in
    let from : c.deref-2.result.now ≡ take near.depth key ++ next ∷ [] = c.deref-2.ensures.value ∙ c.in_ok-from.ensures ∙ ap (λ w. take near.depth w ++ next ∷ []) c.deref.ensures.value in
    let none : from_on c.deref-2.result.now es ≡ [] = search rules in
    wider_misses es key c.deref-2.result.now near.value near.depth near.highest next c.requires.near within up under from none
