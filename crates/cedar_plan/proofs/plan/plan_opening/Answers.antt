use Rattle.std.proofs.Common.{◌∙◌, ap, false, sym}
use Rattle.cedar_plan.specs.Works.{opening_works}
use Rattle.cedar_plan.proofs.Opening.{works_there}
use Rattle.cedar_plan.proofs.plan.plan_opening.Goals as goal

pub returns-in-New-clause-works : goal.returns-in-New-clause-works
returns-in-New-clause-works c = λ rest. c.plan_header.ensures.works c.args.bytes.now rest ∙ ap (opening_works c.args.bytes.now) (sym c.in-New.is)

pub returns-else-ends_closed-clause-works : goal.returns-else-ends_closed-clause-works
returns-else-ends_closed-clause-works c = λ rest.
    works_there c.args.bytes.now c.args.extent c.in-Until.field-0 c.in-Until.end false _ c.in-Until.is (sym c.ends_closed.ensures ∙ c.if-ends_closed.false) (c.plan_end.ensures.works rest)
