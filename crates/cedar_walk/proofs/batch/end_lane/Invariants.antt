use Rattle.std.proofs.Common.{length, ◌-◌, Some}
use Rattle.cedar_walk.specs.Batch.{IsLane}
use Rattle.cedar_table.specs.Table.Views.{fields}
use Rattle.cedar_walk.proofs.batch.end_lane.Given as goal

abbrev pub invariant-loop-at : goal.invariant-loop-at
invariant-loop-at g l = IsLane (fields l.table) l.key l.at (Some l.node)

abbrev pub decreases-loop-at : goal.decreases-loop-at
decreases-loop-at g l = length l.key - l.at
