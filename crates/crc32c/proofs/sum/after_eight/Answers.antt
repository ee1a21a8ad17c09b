use Rattle.std.proofs.Common.{rules, sym, ◌∙◌, ap, arith}
use Rattle.std.specs.Prelude.{bit_xor}
use Rattle.crc32c.specs.Sums.{after_bits}
use Rattle.crc32c.proofs.Linear.{eight_of}
use Rattle.crc32c.proofs.sum.after_eight.Goals as goal

pub returns : goal.returns
returns c =
    (λ i. bit_xor ((c.byte_after_eight-first.ensures ∙ ap (after_bits 64) c.lowest_of.ensures) i)
    (bit_xor ((c.byte_after_seven-second.ensures ∙ ap (after_bits 56) c.lowest_of-2.ensures) i)
    (bit_xor ((c.byte_after_six-third.ensures ∙ ap (after_bits 48) c.lowest_of-3.ensures) i)
    (bit_xor ((c.byte_after_five-fourth.ensures ∙ ap (after_bits 40) c.lowest_of-4.ensures) i)
    (bit_xor (c.byte_after_four-fifth.ensures i) (bit_xor (c.byte_after_three-sixth.ensures i)
    (bit_xor (c.byte_after_two-seventh.ensures i) (c.byte_after_one-eighth.ensures i))))))))
    ∙ sym (eight_of c.args.register c.args.bytes.now (omega arith) (search rules) (λ i. search rules))
