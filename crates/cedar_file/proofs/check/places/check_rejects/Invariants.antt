use Rattle.std.proofs.Common.{ℕ, ◌<◌, ◌≤◌, ◌+◌, pos}
use Rattle.cedar_slots.specs.Places.{reject_at, Within}
use Rattle.cedar_file.proofs.check.places.check_rejects.Given as goal

abbrev pub invariant-loop-free : goal.invariant-loop-free
invariant-loop-free g l = record {
  values : (i : ℕ) → i < l.free → Within (pos 1) (reject_at l.places.reject.items i) (pos (i + 1));
  cost : l.reads ≤ l.initial.reads + l.free;
}
