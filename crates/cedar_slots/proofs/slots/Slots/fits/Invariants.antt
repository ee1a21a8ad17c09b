use Rattle.std.proofs.Common.{◌≡◌, ℕ, ◌<◌, slice_index_or, true}
use Rattle.std.specs.Prelude.{bit_xor}
use Rattle.cedar_slots.specs.Slots.{is_free}
use Rattle.cedar_slots.proofs.slots.Slots.fits.Given as goal

abbrev pub invariant-loop-label : goal.invariant-loop-label
invariant-loop-label g l = (k d : ℕ) → k < l.label-index → is_free l.self.nodes.items (bit_xor l.base (slice_index_or l.labels k d)) ≡ true
