use Rattle.std.proofs.Common.{sym, ◌∙◌, ap, arith}
use Rattle.std.specs.Prelude.{bit_xor, ◌/◌, ◌^◌}
use Rattle.crc32c.specs.Sums.{after_bits}
use Rattle.crc32c.proofs.Linear.{byte_at_once}
use Rattle.crc32c.proofs.sum.after_byte.Goals as goal

pub returns : goal.returns
returns c =
    ap (bit_xor (c.args.register / 2 ^ 8)) (c.byte_after_one.ensures ∙ ap (after_bits 8) c.lowest_of.ensures)
    ∙ sym (byte_at_once c.args.register c.args.byte (omega arith))
