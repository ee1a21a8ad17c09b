use Rattle.std.proofs.Common.{◌≡◌, length}
use Rattle.std.specs.Prelude.{fold}
use Rattle.crc32c.specs.Sums.{after_byte}
use Rattle.crc32c.proofs.sum.register_after.Given as goal

-- what is left makes of the register what all bytes make of the first one
abbrev pub invariant-loop-eight : goal.invariant-loop-eight
invariant-loop-eight l = fold after_byte l.register l.rest ≡ fold after_byte l.fn.before l.fn.bytes

abbrev pub decreases-loop-eight : goal.decreases-loop-eight
decreases-loop-eight l = length l.rest
