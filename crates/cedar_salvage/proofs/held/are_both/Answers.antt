use Rattle.std.proofs.Common.{sym, ◌∙◌}
use Rattle.cedar_salvage.proofs.Keeping.{are_both, no_header, not_both}
use Rattle.cedar_salvage.proofs.held.are_both.Goals as goal

pub returns-in-Some-clause-same : goal.returns-in-Some-clause-same
returns-in-Some-clause-same c is =
    let found = c.in-Some.ensures.cases in
    are_both c.args.held.now c.args.header.now c.args.bytes.now c.in-Some.rest.now found.0 found.1 (sym c.eq.ensures ∙ is)

pub returns-in-Some-clause-other : goal.returns-in-Some-clause-other
returns-in-Some-clause-other c is =
    let found = c.in-Some.ensures.cases in
    not_both c.args.held.now c.args.header.now c.args.bytes.now c.in-Some.rest.now found.1 (sym c.eq.ensures ∙ is)

pub returns-in-None-clause-other : goal.returns-in-None-clause-other
returns-in-None-clause-other c is = no_header c.args.held.now c.args.header.now c.args.bytes.now c.in-None.ensures.cases
