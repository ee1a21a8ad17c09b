use Rattle.std.proofs.Common.{◌≡◌, ◌+◌, ◌-◌, ◌≤◌, ◌++◌, ℕ, length, List, vec_capacity}
use Rattle.cedar_table.specs.Table.Views.{cells, fields}
use Rattle.cedar_model.specs.Table.TableFields.{size_of}
use Rattle.cedar_walk.specs.Visits.{IsBelow, path_to}
use Rattle.cedar_walk.proofs.WalkLemmas.NextNumber.{Descended}
use Rattle.cedar_walk.proofs.keys.numbered_from_with_key.Given as goal

-- no node that was passed has a number, the key has the labels so far, and its buffer hasn't become smaller
abbrev pub invariant-loop-label : goal.invariant-loop-label
invariant-loop-label g l = record {
  first : l.label ≡ (cells l.table).child l.slot;
  down : (start : List ℕ) → IsBelow (cells l.table) start l.depth l.node → Descended (fields l.table) start l.depth l.node l.steps l.slot;
  key : (front : List ℕ) → l.initial.key.items ≡ front ++ path_to (fields l.table) l.depth l.node → l.key.items ≡ front ++ path_to (fields l.table) l.steps l.slot;
  long : length l.key.items + l.depth ≡ length l.initial.key.items + l.steps;
  room : vec_capacity l.initial.key ≤ vec_capacity l.key;
}

-- a path is no longer than there are slots
abbrev pub decreases-loop-label : goal.decreases-loop-label
decreases-loop-label g l = size_of (fields l.table) - l.steps
