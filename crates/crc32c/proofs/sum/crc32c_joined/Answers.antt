use Rattle.std.proofs.Common.{◌++◌, sym, ◌∙◌, ap, arith}
use Rattle.std.specs.Prelude.{fold}
use Rattle.std.proofs.lemmas.List.Sums.{fold-append}
use Rattle.crc32c.specs.Sums.{after_byte}
use Rattle.crc32c.proofs.Last.{last_is_sum}
use Rattle.crc32c.proofs.sum.crc32c_joined.Goals as goal

pub returns : goal.returns
returns c =
    let first = c.args.first.now in
    let second = c.args.second.now in
    last_is_sum c.register_after.result (first ++ second) (omega arith)
    (c.register_after.ensures ∙ ap (λ r. fold after_byte r second) c.register_after-between.ensures ∙ sym (fold-append after_byte 0xffffffff first second))
