use Rattle.std.proofs.Common.{◌≤◌, ◌-◌, length, take}
use Rattle.cedar_model.specs.Edit.NodeEdits.{IsAt}
use Rattle.cedar_table.specs.Table.Views.{cells}
use Rattle.cedar_walk.proofs.ranges.way_along.Given as goal

-- the bytes so far lead to the slot
abbrev pub invariant-loop-depth : goal.invariant-loop-depth
invariant-loop-depth g l = record {
  within : l.depth ≤ length l.key;
  at : IsAt (cells l.table) (take l.depth l.key) l.slot;
}

abbrev pub decreases-loop-depth : goal.decreases-loop-depth
decreases-loop-depth g l = length l.key - l.depth
