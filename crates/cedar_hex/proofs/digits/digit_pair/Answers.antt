use Rattle.std.proofs.Common.{ap, ◌∙◌}
use Rattle.cedar_hex.proofs.DigitLemmas.{word_of, word_of-digits}
use Rattle.cedar_hex.proofs.digits.digit_pair.Goals as goal

pub returns : goal.returns
returns c = ap word_of c.from-byte.ensures ∙ word_of-digits c.args.byte c.ranges.byte.fits
