use Rattle.std.proofs.Common.{arith}
use Rattle.hex.proofs.Pairs.{decode_done, decode_start}
use Rattle.cedar_hex.proofs.PairLemmas.{decodes_more}
use Rattle.cedar_hex.proofs.digits.decode_pairs.Goals as goal

pub loop-i-init : goal.loop-i-init
loop-i-init c = ((λ small. decode_start c.args.text.now c.args.bytes.now), λ large. absurd (omega arith))

pub loop-i-preserved : goal.loop-i-preserved
loop-i-preserved c =
    decodes_more _ _ c.loop-i.i c.loop-i.values _ _ (omega arith) (omega arith) c.digit_value-high.ensures c.digit_value-low.ensures c.loop-i.invariant

pub returns-clause-digits : goal.returns-clause-digits
returns-clause-digits c = λ small. decode_done _ _ c.loop-i.i (omega arith) (omega arith) (c.loop-i.invariant.0 small)

pub returns-clause-others : goal.returns-clause-others
returns-clause-others c = c.loop-i.invariant.1
