use Rattle.std.proofs.Common.{◌≡◌, ◌+◌, ◌-◌, take, drop, ap, arith}
use Rattle.crc32c.specs.Sums.{crc32c}
use Rattle.cedar_journal.proofs.Nexts.{cut_damage, few_damage, sum_damage, summed_piece}
use Rattle.cedar_journal.proofs.Readings.{ended_few, ended_gate, summed_end}
use Rattle.cedar_journal.proofs.records.next_summed.Goals as goal

pub returns-then-bytes-le1 : goal.returns-then-bytes-le1
returns-then-bytes-le1 c = summed_end c.args.bytes.now (ended_few c.args.bytes.now (omega arith))

pub returns-then-bytes-eq0 : goal.returns-then-bytes-eq0
returns-then-bytes-eq0 c = summed_end c.args.bytes.now (ended_gate c.args.bytes.now (omega arith))

pub returns-then-bytes-lt9 : goal.returns-then-bytes-lt9
returns-then-bytes-lt9 c = few_damage c.args.bytes.now (omega arith) (omega arith) (omega arith)

pub returns-then-len-bytes : goal.returns-then-len-bytes
returns-then-len-bytes c = cut_damage c.args.bytes.now (omega arith) (omega arith) c.number-len.result (omega (arith, c.number-len.ensures)) (omega arith)

pub returns-then-crc32c-number : goal.returns-then-crc32c-number
returns-then-crc32c-number c =
    let bytes = c.args.bytes.now in
    let n = c.number-len.result in
    let size : 9 + n - 5 ≡ 4 + n = omega arith in
    let text = ap (λ k. crc32c (take k (drop 5 bytes))) size in
    sum_damage bytes (omega arith) (omega arith) n (omega (arith, c.number-len.ensures)) (omega (arith, text, c.crc32c.ensures, c.number.ensures))

pub returns : goal.returns
returns c =
    let bytes = c.args.bytes.now in
    let n = c.number-len.result in
    let size : 9 + n - 5 ≡ 4 + n = omega arith in
    let text = ap (λ k. crc32c (take k (drop 5 bytes))) size in
    let piece = summed_piece bytes (omega arith) (omega arith) n (omega (arith, c.number-len.ensures)) (omega arith) (omega (arith, text, c.crc32c.ensures, c.number.ensures)) in
    (omega arith, omega arith, piece.0, piece.1)
