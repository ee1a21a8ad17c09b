use Rattle.std.proofs.Common.{get_or, refl, arith}
use Rattle.crc32c.specs.declared.table.TheConstants.{AFTER_SIX}
use Rattle.crc32c.specs.Sums.{after_bit, after_bits, feedback}
use Rattle.crc32c.proofs.Linear.{agree_at, agree_below}
use Rattle.crc32c.proofs.table.byte_after_six.Goals as goal

pub returns : goal.returns
unfolding agree_below after_bits after_bit feedback
returns c = agree_at (λ k. get_or AFTER_SIX k 0) (after_bits 48) 256 refl c.args.byte (omega arith)
