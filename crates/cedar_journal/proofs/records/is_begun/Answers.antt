use Rattle.std.proofs.Common.{sym, ◌∙◌}
use Rattle.cedar_journal.proofs.Headers.{none_begun, second_begun, first_begun, shut_begun, ajar_begun}
use Rattle.cedar_journal.proofs.records.is_begun.Goals as goal

pub returns-in-None : goal.returns-in-None
returns-in-None c = none_begun c.args.bytes.now c.in-None.ensures.cases

pub returns-then-starts_with : goal.returns-then-starts_with
returns-then-starts_with c =
    sym c.if-starts_with.true
    ∙ second_begun c.args.bytes.now c.in-Some.rest.now c.in-Some.gate.now c.in-Some.ensures.cases.0 c.starts_with.result c.starts_with.result c.starts_with.ensures.value c.if-starts_with.true

pub returns-then-starts_with-2 : goal.returns-then-starts_with-2
returns-then-starts_with-2 c =
    sym c.if-starts_with-2.true
    ∙ first_begun c.args.bytes.now c.in-Some.rest.now c.in-Some.gate.now c.in-Some.ensures.cases.0 c.starts_with.result c.starts_with-in-Some.result c.starts_with.ensures.value c.starts_with-in-Some.ensures.value c.if-starts_with.false c.if-starts_with-2.true

pub returns-then-gate-eq0 : goal.returns-then-gate-eq0
returns-then-gate-eq0 c =
    shut_begun c.args.bytes.now c.in-Some.rest.now c.in-Some.gate.now c.in-Some.ensures.cases.0 c.starts_with.result c.starts_with-in-Some.result c.starts_with.ensures.value c.starts_with-in-Some.ensures.value c.if-starts_with.false c.if-starts_with-2.false c.if-gate-eq0.true

pub returns-else-gate-eq0 : goal.returns-else-gate-eq0
returns-else-gate-eq0 c =
    ajar_begun c.args.bytes.now c.in-Some.rest.now c.in-Some.gate.now c.in-Some.ensures.cases.0 c.starts_with.result c.starts_with-in-Some.result c.starts_with.ensures.value c.starts_with-in-Some.ensures.value c.if-starts_with.false c.if-starts_with-2.false c.if-gate-eq0.false
