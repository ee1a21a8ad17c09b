-- How many items a prediction has.
use Rattle.std.proofs.Common.{◌≡◌, ℕ, ◌-◌, ◌<◌, ◌^◌, List, length, arith}
use Rattle.std.specs.Prelude.{nat_eq}
use Rattle.std.specs.List.{starts_with}
use Rattle.std.proofs.lemmas.List.{length-map}
use Rattle.std.proofs.lemmas.List.Sums.{count_by-le-length, length-filter}
use Rattle.cedar_tree.specs.Tree.{Tree}
use Rattle.cedar_tree.specs.Queries.{Entry, predict, walk}
use Rattle.cedar_walk.specs.Ranges.{entries_with}

-- a prediction has an item for each entry whose path begins with the query
pub predicted_count : (t : Tree) (q : List ℕ) → length (predict t q) ≡ length (entries_with t q)
predicted_count t q = length-map (entries_with t q) (λ (e : Entry). (e.1, length e.0 - length q))

-- and these are no more than all entries
pub predictions_fit : (t : Tree) (q : List ℕ) → length (walk t) < 2 ^ 64 → length (predict t q) < 2 ^ 64
predictions_fit t q h =
    let begins = λ (e : Entry). starts_with nat_eq e.0 q in
    omega (arith, predicted_count t q, length-filter begins (walk t), count_by-le-length begins (walk t))
