use Rattle.std.proofs.Common.{rules, arith}
use Rattle.std.proofs.lemmas.Fmt.{length-decimal-le}
use Rattle.word_lists.proofs.word.put_signed.Goals as goal

pub write_digits-start-requires : goal.write_digits-start-requires
write_digits-start-requires c = (omega (arith, length-decimal-le 10 c.unsigned_abs.result (omega arith) (omega arith) (omega arith)), search rules)

pub returns-then-number-ge0-clause-place : goal.returns-then-number-ge0-clause-place
returns-then-number-ge0-clause-place c = omega (arith, length-decimal-le 10 c.unsigned_abs.result (omega arith) (omega arith) (omega arith))

pub put_byte-requires-clause-room : goal.put_byte-requires-clause-room
put_byte-requires-clause-room c = omega (arith, length-decimal-le 10 c.unsigned_abs.result (omega arith) (omega arith) (omega arith))

pub returns-clause-place : goal.returns-clause-place
returns-clause-place c = omega (arith, length-decimal-le 10 c.unsigned_abs.result (omega arith) (omega arith) (omega arith))
