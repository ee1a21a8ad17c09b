use Rattle.std.proofs.Common.{ℕ, List}
use Rattle.cedar_model.specs.Queries.{node_at}
use Rattle.cedar_model.specs.Edit.NodeEdits.{IsAt}
use Rattle.cedar_model.specs.Meaning.WellFormed.{tree_of}
use Rattle.cedar_table.specs.Table.Views.{cells, fields}
use Rattle.cedar_walk.specs.RangePlaces.{AboveFrom}
use Rattle.cedar_walk.proofs.WalkLemmas.Ranges.{steps_left}
use Rattle.cedar_walk.proofs.ranges.child_above.Given as goal

-- no label that was passed is above
abbrev pub invariant-loop-next : goal.invariant-loop-next
invariant-loop-next g l = (w : List ℕ) → IsAt (cells l.table) w l.node → AboveFrom (node_at (tree_of (fields l.table)) w).children l.label l.next

abbrev pub decreases-loop-next : goal.decreases-loop-next
decreases-loop-next g l = steps_left l.next
