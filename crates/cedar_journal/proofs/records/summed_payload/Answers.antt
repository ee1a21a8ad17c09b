use Rattle.std.proofs.Common.{◌+◌, ◌-◌, arith}
use Rattle.cedar_journal.proofs.Nexts.{cut_ends, few_ends, shut_ends, summed_found}
use Rattle.cedar_journal.proofs.records.summed_payload.Goals as goal

pub returns-then-bytes-lt9-clause-none : goal.returns-then-bytes-lt9-clause-none
returns-then-bytes-lt9-clause-none c = λ sound. few_ends c.args.bytes.now sound (omega arith)

pub returns-then-bytes-eq0-clause-none : goal.returns-then-bytes-eq0-clause-none
returns-then-bytes-eq0-clause-none c = λ sound. shut_ends c.args.bytes.now sound (omega arith)

pub returns-then-len-bytes-clause-none : goal.returns-then-len-bytes-clause-none
returns-then-len-bytes-clause-none c = λ sound. cut_ends c.args.bytes.now sound c.number-len.result (omega (arith, c.number-len.ensures)) (omega arith)

pub returns-clause-read : goal.returns-clause-read
returns-clause-read c = λ sound.
    summed_found c.args.bytes.now sound c.number-len.result (9 + c.number-len.result - 9) (omega arith) (omega (arith, c.number-len.ensures)) (omega arith) (omega arith) (omega arith)
