use Rattle.std.proofs.Common.{◌∙◌, ◌≤◌, ◌-◌, ◌+◌, sym, arith}
use Rattle.cedar_c.proofs.MatchLemmas.{nothing_left, one_passed}
use Rattle.cedar_c.proofs.pages.pass.Goals as goal

pub returns-in_default-clause-ended : goal.returns-in_default-clause-ended
returns-in_default-clause-ended g c =
    let left = g.F.Finds.left c.loop-passed.walk in
    λ _. sym c.loop-passed.invariant.0 ∙ nothing_left (c.args.count - c.loop-passed.passed) left c.in_default.ensures

pub loop-passed-preserved : goal.loop-passed-preserved
loop-passed-preserved g c =
    let left = g.F.Finds.left c.loop-passed.walk in
    let later = g.F.Finds.left c.next_found.new.self in
    let below = c.loop-passed-test.true in
    let within : c.loop-passed.passed + 1 ≤ c.args.count = omega (arith, below) in
    (one_passed c.args.count c.loop-passed.passed left c.in-Some.field-0 later below c.in-Some.ensures ∙ c.loop-passed.invariant.0, within)
