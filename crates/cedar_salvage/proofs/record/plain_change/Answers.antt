use Rattle.std.proofs.Common.{◌∙◌, sym}
use Rattle.cedar_salvage.proofs.Finding.{no_record, stops_there, taken_there}
use Rattle.cedar_salvage.proofs.record.plain_change.Goals as goal

pub returns-then-not-is_change-clause-none : goal.returns-then-not-is_change-clause-none
returns-then-not-is_change-clause-none c =
    stops_there c.args.bytes.now c.in-Some.payload.now c.in-Some.ensures.some.0 c.in-Some.ensures.some.1 (sym c.is_change.ensures ∙ c.if-not-is_change.true)

pub returns-else-not-is_change-clause-read : goal.returns-else-not-is_change-clause-read
returns-else-not-is_change-clause-read c =
    taken_there c.args.bytes.now c.in-Some.payload.now c.in-Some.ensures.some.0 c.in-Some.ensures.some.1 (sym c.is_change.ensures ∙ c.if-not-is_change.false) c.in-Some.ensures.behind.1

pub returns-in-None-clause-none : goal.returns-in-None-clause-none
returns-in-None-clause-none c = no_record c.args.bytes.now c.in-None.ensures.none
