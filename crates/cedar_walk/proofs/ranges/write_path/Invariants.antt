use Rattle.std.proofs.Common.{ℕ, List}
use Rattle.cedar_table.specs.Table.Views.{cells, fields}
use Rattle.cedar_walk.specs.Visits.{IsBelow}
use Rattle.cedar_walk.proofs.WalkLemmas.Ranges.{Written}
use Rattle.cedar_walk.proofs.ranges.write_path.Given as goal

-- the labels but for the first `steps` are written, and those lead to the slot
abbrev pub invariant-loop-steps : goal.invariant-loop-steps
invariant-loop-steps g l = record {
  below : (start : List ℕ) → IsBelow (cells l.table) start l.depth l.node → IsBelow (cells l.table) start l.steps l.slot;
  written : Written (fields l.table) l.depth l.node l.initial.key l.steps l.slot l.key;
}

abbrev pub decreases-loop-steps : goal.decreases-loop-steps
decreases-loop-steps g l = l.steps
