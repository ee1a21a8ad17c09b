use Rattle.std.proofs.Common.{◌-◌, ◌≡◌, ◌≤◌, ◌++◌, drop, map, take}
use Rattle.cedar_model.specs.Queries.{exact}
use Rattle.cedar_walk.specs.Batch.{keys_of}
use Rattle.cedar_table.specs.Table.Views.{fields}
use Rattle.cedar_model.specs.Meaning.WellFormed.{tree_of}
use Rattle.cedar_walk.proofs.batch.exact_match_search_batch.Given as goal

abbrev pub invariant-loop-start : goal.invariant-loop-start
invariant-loop-start g l =
    (l.start ≤ l.count) × (l.answers ≡ map (exact (tree_of (fields l.table))) (take l.start (keys_of l.keys)) ++ drop l.start l.initial.answers)

abbrev pub decreases-loop-start : goal.decreases-loop-start
decreases-loop-start g l = l.count - l.start
