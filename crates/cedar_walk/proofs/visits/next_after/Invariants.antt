use Rattle.std.proofs.Common.{ℕ, List}
use Rattle.cedar_table.specs.Table.Views.{cells, fields}
use Rattle.cedar_walk.specs.Visits.{IsBelow}
use Rattle.cedar_walk.proofs.WalkLemmas.NextNode.{Climbed}
use Rattle.cedar_walk.proofs.visits.next_after.Given as goal

-- nothing was left of the walk below the nodes that were climbed
abbrev pub invariant-loop-steps : goal.invariant-loop-steps
invariant-loop-steps g l = (start : List ℕ) → IsBelow (cells l.table) start l.depth l.node → Climbed (fields l.table) start l.depth l.node l.steps l.slot

abbrev pub decreases-loop-steps : goal.decreases-loop-steps
decreases-loop-steps g l = l.steps
