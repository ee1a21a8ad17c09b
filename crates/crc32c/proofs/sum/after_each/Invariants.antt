use Rattle.std.proofs.Common.{◌≡◌, take}
use Rattle.std.specs.Prelude.{fold}
use Rattle.crc32c.specs.Sums.{after_byte}
use Rattle.crc32c.proofs.sum.after_each.Given as goal

abbrev pub invariant-loop-byte : goal.invariant-loop-byte
invariant-loop-byte l = l.register ≡ fold after_byte l.fn.before (take l.byte-index l.bytes)
