use Rattle.std.proofs.Common.{◌≡◌, ℕ, ◌+◌, ◌<◌, pos, length}
use Rattle.cedar_slots.specs.Places.{reject_at}
use Rattle.cedar_slots.proofs.places.first_rejects.Given as goal

abbrev pub invariant-loop-free : goal.invariant-loop-free
invariant-loop-free g l = record {
  len : length l.rejects.items ≡ 257;
  value : (i : ℕ) → i < l.free → reject_at l.rejects.items i ≡ pos (i + 1);
}
