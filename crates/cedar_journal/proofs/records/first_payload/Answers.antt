use Rattle.std.proofs.Common.{◌+◌, ◌-◌, arith}
use Rattle.cedar_journal.proofs.Found.{lacks_short, lacks_shut, lacks_cut, found, found_behind}
use Rattle.cedar_journal.proofs.records.first_payload.Goals as goal

pub returns-then-bytes-lt5-clause-none : goal.returns-then-bytes-lt5-clause-none
returns-then-bytes-lt5-clause-none c = lacks_short c.args.bytes.now (omega arith)

pub returns-then-bytes-ne1-clause-none : goal.returns-then-bytes-ne1-clause-none
returns-then-bytes-ne1-clause-none c = lacks_shut c.args.bytes.now (omega arith)

pub returns-then-len-bytes-clause-none : goal.returns-then-len-bytes-clause-none
returns-then-len-bytes-clause-none c = lacks_cut c.args.bytes.now c.number-len.result (omega (arith, c.number-len.ensures)) (omega arith)

pub returns-clause-some : goal.returns-clause-some
returns-clause-some c = found c.args.bytes.now c.number-len.result (5 + c.number-len.result - 5) (omega arith) (omega (arith, c.number-len.ensures)) (omega arith) (omega arith)

pub returns-clause-behind : goal.returns-clause-behind
returns-clause-behind c = found_behind c.args.bytes.now c.number-len.result (5 + c.number-len.result - 5) (omega (arith, c.number-len.ensures)) (omega arith) (omega arith)
