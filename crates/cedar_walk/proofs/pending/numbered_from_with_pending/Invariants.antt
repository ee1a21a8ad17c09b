use Rattle.std.proofs.Common.{◌≡◌, ◌-◌, ℕ, List}
use Rattle.cedar_table.specs.Table.Views.{cells, fields}
use Rattle.cedar_model.specs.Table.TableFields.{size_of}
use Rattle.cedar_walk.specs.Pending.{IsPending}
use Rattle.cedar_walk.specs.Visits.{IsBelow}
use Rattle.cedar_walk.proofs.WalkLemmas.NextNumber.{Descended}
use Rattle.cedar_walk.proofs.pending.numbered_from_with_pending.Given as goal

-- no node that was passed has a number, and the siblings that are kept are right for the node
abbrev pub invariant-loop-label : goal.invariant-loop-label
invariant-loop-label g l = record {
  first : l.label ≡ (cells l.table).child l.slot;
  down : (start : List ℕ) → IsBelow (cells l.table) start l.depth l.node → Descended (fields l.table) start l.depth l.node l.steps l.slot;
  kept : IsPending (fields l.table) l.siblings l.steps l.slot;
}

-- a path is no longer than there are slots
abbrev pub decreases-loop-label : goal.decreases-loop-label
decreases-loop-label g l = size_of (fields l.table) - l.steps
