use Rattle.cedar_journal.proofs.Nexts.{plain_ends, plain_read}
use Rattle.cedar_journal.proofs.records.plain_payload.Goals as goal

pub returns-in-Some-clause-read : goal.returns-in-Some-clause-read
returns-in-Some-clause-read c = plain_read c.args.bytes.now c.in-Some.payload.now c.in-Some.ensures.some.0 c.in-Some.ensures.some.1 c.in-Some.ensures.behind.1

pub returns-in-None-clause-none : goal.returns-in-None-clause-none
returns-in-None-clause-none c = plain_ends c.args.bytes.now c.in-None.ensures.none
