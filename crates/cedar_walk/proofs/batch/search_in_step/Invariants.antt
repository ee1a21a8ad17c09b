use Rattle.std.proofs.Common.{◌≡◌, ◌<◌, ℕ, get_or, [], None}
use Rattle.cedar_model.specs.Queries.{exact}
use Rattle.cedar_walk.specs.Batch.{AreLanes, keys_of}
use Rattle.cedar_table.specs.Table.Views.{fields}
use Rattle.cedar_model.specs.Meaning.WellFormed.{tree_of}
use Rattle.cedar_walk.proofs.batch.search_in_step.Given as goal

abbrev pub invariant-loop-passed : goal.invariant-loop-passed
invariant-loop-passed g l = AreLanes (fields l.table) (keys_of l.keys) l.passed l.lanes

abbrev pub invariant-loop-lane : goal.invariant-loop-lane
invariant-loop-lane g l = (i : ℕ) → i < l.lane → get_or l.answers i None ≡ exact (tree_of (fields l.table)) (get_or (keys_of l.keys) i [])
