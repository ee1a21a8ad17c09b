use Rattle.std.proofs.Common.{◌≡◌, ◌+◌, ◌*◌, ◌-◌, ◌≤◌, length}
use Rattle.cedar_model.specs.Walks.{front_from}
use Rattle.cedar_walk.specs.Fronts.{IsOnQuery}
use Rattle.cedar_table.specs.Table.Views.{fields}
use Rattle.cedar_model.specs.Meaning.WellFormed.{tree_of}
use Rattle.cedar_walk.proofs.fronts.next_held_front.Given as goal

-- no front of the bytes between is held, and each of them cost two comparisons at most
abbrev pub invariant-loop-len : goal.invariant-loop-len
invariant-loop-len g l = record {
  on : IsOnQuery (fields l.table) l.query l.len l.slot;
  far : l.place ≤ l.len;
  front : front_from (tree_of (fields l.table)) l.query l.place ≡ front_from (tree_of (fields l.table)) l.query l.len;
  cost : l.ticks ≤ l.initial.ticks + 2 * (l.len - l.place);
}

abbrev pub decreases-loop-len : goal.decreases-loop-len
decreases-loop-len g l = length l.query - l.len
