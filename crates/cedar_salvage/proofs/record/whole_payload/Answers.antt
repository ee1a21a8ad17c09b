use Rattle.std.proofs.Common.{◌+◌, ◌-◌, ◌∙◌, sym, arith}
use Rattle.cedar_salvage.proofs.Finding.{few, other, short, shut, taken, unlike, whole}
use Rattle.cedar_salvage.proofs.record.whole_payload.Goals as goal

pub returns-then-bytes-lt9-clause-none : goal.returns-then-bytes-lt9-clause-none
returns-then-bytes-lt9-clause-none c = few c.args.bytes.now (omega arith)

pub returns-then-bytes-eq0-clause-none : goal.returns-then-bytes-eq0-clause-none
returns-then-bytes-eq0-clause-none c = shut c.args.bytes.now (omega arith)

pub returns-then-len-bytes-clause-none : goal.returns-then-len-bytes-clause-none
returns-then-len-bytes-clause-none c = short c.args.bytes.now c.number-len.result (omega (arith, c.number-len.ensures)) (omega arith)

pub returns-then-not-is_change-clause-none : goal.returns-then-not-is_change-clause-none
returns-then-not-is_change-clause-none c =
    other c.args.bytes.now c.number-len.result (9 + c.number-len.result - 9) (omega (arith, c.number-len.ensures)) (omega arith) (sym c.is_change.ensures ∙ c.if-not-is_change.true)

pub returns-then-crc32c-number-clause-none : goal.returns-then-crc32c-number-clause-none
returns-then-crc32c-number-clause-none c =
    unlike c.args.bytes.now c.number-len.result (9 + c.number-len.result - 5) (omega (arith, c.number-len.ensures)) (omega arith) (omega (arith, c.crc32c.ensures, c.number.ensures))

pub returns-clause-read : goal.returns-clause-read
returns-clause-read c =
    let bytes = c.args.bytes.now in
    let n = c.number-len.result in
    taken bytes n (9 + n - 9) (omega (arith, c.number-len.ensures)) (omega arith) (omega arith)
    (whole bytes n (9 + n - 5) (9 + n - 9) (omega arith) (omega (arith, c.number-len.ensures)) (omega arith) (omega arith) (omega (arith, c.crc32c.ensures, c.number.ensures))
    (omega arith) (sym c.is_change.ensures ∙ c.if-not-is_change.false))
