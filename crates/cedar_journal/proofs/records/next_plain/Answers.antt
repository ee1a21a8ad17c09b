use Rattle.std.proofs.Common.{◌+◌, length, ap, arith}
use Rattle.cedar_journal.proofs.Found.{length-payload}
use Rattle.cedar_journal.proofs.Nexts.{plain_piece}
use Rattle.cedar_journal.proofs.Readings.{plain_end}
use Rattle.cedar_journal.proofs.records.next_plain.Goals as goal

pub returns-in-Some : goal.returns-in-Some
returns-in-Some c =
    let bytes = c.args.bytes.now in
    let some = c.in-Some.ensures.some in
    let size = length-payload bytes some.0 in
    let same = ap length some.1 in
    let fits = c.in-Some.ensures.behind.0 in
    let piece = plain_piece bytes (5 + length c.in-Some.payload.now) some.0 (omega (arith, same, size)) in
    (omega arith, omega (arith, fits), piece.0, piece.1)

pub returns-in-None : goal.returns-in-None
returns-in-None c = plain_end c.args.bytes.now c.in-None.ensures.none
