-- The longest front of a text that is held is within it.
use Rattle.std.proofs.Common.{ℕ, zero, suc, ◌+◌, ◌<◌, ◌≤◌, ℤ, List, length, take, Option, Some, None, option_map, IfSome, arith, All}
use Rattle.std.specs.List.{filter_map, cons_option, range_with_len, last_or}
use Rattle.std.proofs.lemmas.List.Elements.{All-cons, All-nil}
use Rattle.cedar_tree.specs.Tree.{Tree, number_at}
use Rattle.cedar_tree.specs.Queries.{found_at, front}

last_within : (t : Tree) (q : List ℕ) (n a end : ℕ) (before : Option (ℤ × ℕ)) → a + n ≤ end → IfSome before (λ found. found.1 < end)
    → IfSome (last_or before (filter_map (found_at t q) (range_with_len a n))) (λ found. found.1 < end)
last_within t q zero a end before e h = h
last_within t q (suc n) a end before e h =
    elim (number_at t (take (a + 1) q)) as (λ o. IfSome (last_or before (cons_option (option_map (λ (v : ℤ). (v, a)) o) (filter_map (found_at t q) (range_with_len (a + 1) n)))) (λ found. found.1 < end)) [
      | None ↦ last_within t q n (a + 1) end before (omega (arith, e)) h
      | Some v ↦ last_within t q n (a + 1) end (Some (v, a)) (omega (arith, e)) (omega (arith, e))
    ]

pub front_within : (t : Tree) (q : List ℕ) → IfSome (last_or None (front t q)) (λ found. found.1 < length q)
front_within t q = last_within t q (length q) 0 (length q) None (omega arith) tt

-- and so is each front
all_within : (t : Tree) (q : List ℕ) (n a end : ℕ) → a + n ≤ end → All (λ found. found.1 < end) (filter_map (found_at t q) (range_with_len a n))
all_within t q zero a end e = All-nil (λ (found : ℤ × ℕ). found.1 < end)
all_within t q (suc n) a end e =
    let later = all_within t q n (a + 1) end (omega (arith, e)) in
    elim (number_at t (take (a + 1) q)) as (λ o. All (λ found. found.1 < end) (cons_option (option_map (λ (v : ℤ). (v, a)) o) (filter_map (found_at t q) (range_with_len (a + 1) n)))) [
      | None ↦ later
      | Some v ↦ All-cons (λ (found : ℤ × ℕ). found.1 < end) (v, a) (filter_map (found_at t q) (range_with_len (a + 1) n)) (omega (arith, e)) later
    ]

pub fronts_within : (t : Tree) (q : List ℕ) → All (λ found. found.1 < length q) (front t q)
fronts_within t q = all_within t q (length q) 0 (length q) (omega arith)
