use Rattle.cedar_hex.proofs.PairLemmas.{Decodes}
use Rattle.cedar_hex.proofs.digits.decode_pairs.Given as goal

abbrev pub invariant-loop-i : goal.invariant-loop-i
invariant-loop-i l = Decodes l.text l.bytes l.i l.values
