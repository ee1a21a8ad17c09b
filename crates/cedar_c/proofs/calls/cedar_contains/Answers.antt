use Rattle.std.proofs.Common.{rules, ◌≡◌, None}
use Rattle.cedar_c.specs.Readings.{shown_in}
use Rattle.cedar_c.proofs.ClosedLemmas.{closed_holds_nothing}
use Rattle.cedar_c.proofs.calls.cedar_contains.Goals as goal

pub returns-then-not-is_open-clause-answer : goal.returns-then-not-is_open-clause-answer
returns-then-not-is_open-clause-answer c =
    let closed : shown_in c.args.handle.now ≡ None = search rules in
    let nothing = closed_holds_nothing (shown_in c.args.handle.now) c.args.key.now closed in search rules
