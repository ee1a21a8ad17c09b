use Rattle.std.proofs.Common.{rules, ◌≡◌, ◌∙◌, None, ap, sym}
use Rattle.cedar_c.specs.Matches.{filled_matches, predicted_keys}
use Rattle.cedar_c.specs.Readings.{shown_in}
use Rattle.cedar_c.proofs.ClosedLemmas.{closed_is_empty}
use Rattle.cedar_c.proofs.MatchLemmas.{nothing_filled}
use Rattle.cedar_c.proofs.walks.cedar_predictions.Goals as goal

pub returns-then-not-is_open-clause-filled : goal.returns-then-not-is_open-clause-filled
returns-then-not-is_open-clause-filled c =
    let closed : shown_in c.args.handle.now ≡ None = search rules in
    let matches = c.args.matches.now in
    sym (ap (λ t. filled_matches matches (predicted_keys t c.args.text.now)) (closed_is_empty (shown_in c.args.handle.now) closed) ∙ nothing_filled matches)
