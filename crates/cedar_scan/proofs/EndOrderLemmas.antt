-- That what a scan finds is in the order of the ends.
use Rattle.std.proofs.Common.{◌≡◌, ◌⊎◌, inl, inr, ℕ, ◌+◌, ◌-◌, ◌<◌, ◌≤◌, ℤ, List, [], ◌∷◌, ◌++◌, length, length-append, map, Some, None, option_map, arith}
use Rattle.std.specs.List.{cons_option}
use Rattle.cedar_tree.specs.Tree.{number_at, Tree}
use Rattle.cedar_scan.specs.Laws.{AreByEnd, IsBeforeFirst}
use Rattle.cedar_scan.specs.Suffixes.{keys_ending, Occurrence, occurrence_ending, all_ending}

-- the first of some spots ends behind a position, or at it and has at most so many bytes
abbrev FollowsOn : ℕ → ℕ → List Occurrence → Type 0
FollowsOn end most [] = Unit {0}
FollowsOn end most (s ∷ spots) = (end < s.0 + s.1) ⊎ ((s.0 + s.1 ≡ end) × (s.1 ≤ most))

comes_first : (start len end : ℕ) (v : ℤ) (most : ℕ) (spots : List Occurrence) → start + len ≡ end → most < len → FollowsOn end most spots → IsBeforeFirst (start, len, v) spots
comes_first start len end v most [] e less follows = tt
comes_first start len end v most (s ∷ spots) e less (inl behind) = inl (omega (arith, e, behind))
comes_first start len end v most (s ∷ spots) e less (inr (same, few)) = inr (omega (arith, e, same), omega (arith, less, few))

more_room : (end most more : ℕ) (spots : List Occurrence) → most ≤ more → FollowsOn end most spots → FollowsOn end more spots
more_room end most more [] le follows = tt
more_room end most more (s ∷ spots) le (inl behind) = inl behind
more_room end most more (s ∷ spots) le (inr (same, few)) = inr (same, omega (arith, few, le))

further_on : (end later most : ℕ) (spots : List Occurrence) → end < later → FollowsOn later most spots → FollowsOn end 0 spots
further_on end later most [] less follows = tt
further_on end later most (s ∷ spots) less (inl behind) = inl (omega (arith, less, behind))
further_on end later most (s ∷ spots) less (inr (same, few)) = inl (omega (arith, less, same))

-- the keys that end at one position, and then later ones
ends_here : (t : Tree) (w : List ℕ) (end : ℕ) (later : List Occurrence) → length w ≤ end → AreByEnd later → FollowsOn end 0 later
    → AreByEnd (map (occurrence_ending end) (keys_ending t w) ++ later) × FollowsOn end (length w) (map (occurrence_ending end) (keys_ending t w) ++ later)
ends_here t [] end later low ordered follows = (ordered, follows)
ends_here t (b ∷ w) end later low ordered follows =
    let rest = ends_here t w end later (omega (arith, low)) ordered follows in
    (elim (number_at t (b ∷ w)) as (λ n. AreByEnd (map (occurrence_ending end) (cons_option (option_map (λ (v : ℤ). (v, length (b ∷ w))) n) (keys_ending t w)) ++ later)
    × FollowsOn end (length (b ∷ w)) (map (occurrence_ending end) (cons_option (option_map (λ (v : ℤ). (v, length (b ∷ w))) n) (keys_ending t w)) ++ later)) [
      | None ↦ (rest.0, more_room end (length w) (length (b ∷ w)) (map (occurrence_ending end) (keys_ending t w) ++ later) (omega arith) rest.1)
      | Some v ↦
          let whole : end - length (b ∷ w) + length (b ∷ w) ≡ end = omega (arith, low) in
          ((comes_first (end - length (b ∷ w)) (length (b ∷ w)) end v (length w) (map (occurrence_ending end) (keys_ending t w) ++ later) whole (omega arith) rest.1, rest.0), inr (whole, omega arith))
    ])

in_order : (t : Tree) (rest w : List ℕ) (place : ℕ) → length w ≤ place → AreByEnd (all_ending t w place rest) × FollowsOn place 0 (all_ending t w place rest)
in_order t [] w place low = (tt, tt)
in_order t (b ∷ rest) w place low =
    let long = length-append w (b ∷ []) in
    let fits : length (w ++ b ∷ []) ≤ place + 1 = omega (arith, low, long) in
    let later = in_order t rest (w ++ b ∷ []) (place + 1) fits in
    let here = ends_here t (w ++ b ∷ []) (place + 1) (all_ending t (w ++ b ∷ []) (place + 1) rest) fits later.0 later.1 in
    (here.0, further_on place (place + 1) (length (w ++ b ∷ [])) (all_ending t w place (b ∷ rest)) (omega arith) here.1)

pub ends_ascend : (t : Tree) (text : List ℕ) → AreByEnd (all_ending t [] 0 text)
ends_ascend t text = (in_order t text [] 0 (omega arith)).0
