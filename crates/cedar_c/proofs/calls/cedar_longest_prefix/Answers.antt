use Rattle.std.proofs.Common.{rules, ◌≡◌, None}
use Rattle.cedar_c.specs.Readings.{shown_in}
use Rattle.cedar_c.proofs.MatchLemmas.{closed_has_no_front}
use Rattle.cedar_c.proofs.calls.cedar_longest_prefix.Goals as goal

pub returns-then-not-is_open-clause-answer : goal.returns-then-not-is_open-clause-answer
returns-then-not-is_open-clause-answer c =
    let closed : shown_in c.args.handle.now ≡ None = search rules in
    let nothing = closed_has_no_front (shown_in c.args.handle.now) c.args.text.now closed in search rules

pub returns-then-not-is_open-clause-told : goal.returns-then-not-is_open-clause-told
returns-then-not-is_open-clause-told c =
    let closed : shown_in c.args.handle.now ≡ None = search rules in
    let nothing = closed_has_no_front (shown_in c.args.handle.now) c.args.text.now closed in search rules
