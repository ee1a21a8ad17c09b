use Rattle.std.proofs.Common.{rules, ◌≡◌, ◌∙◌, None, ap, sym, length}
use Rattle.cedarwood.specs.Queries.{front}
use Rattle.cedar_c.specs.Matches.{all_longer, filled_matches, front_keys}
use Rattle.cedar_c.specs.Readings.{shown_in}
use Rattle.cedar_c.proofs.ClosedLemmas.{closed_is_empty}
use Rattle.cedar_c.proofs.MatchLemmas.{no_fronts, nothing_filled}
use Rattle.cedar_c.proofs.walks.cedar_prefixes.Goals as goal

pub returns-then-not-is_open-clause-count : goal.returns-then-not-is_open-clause-count
returns-then-not-is_open-clause-count c =
    let closed : shown_in c.args.handle.now ≡ None = search rules in
    sym (ap (λ t. length (front t c.args.text.now)) (closed_is_empty (shown_in c.args.handle.now) closed) ∙ ap length (no_fronts c.args.text.now))

pub returns-then-not-is_open-clause-filled : goal.returns-then-not-is_open-clause-filled
returns-then-not-is_open-clause-filled c =
    let closed : shown_in c.args.handle.now ≡ None = search rules in
    let matches = c.args.matches.now in
    sym (ap (λ t. filled_matches matches (front_keys t c.args.text.now)) (closed_is_empty (shown_in c.args.handle.now) closed)
    ∙ ap (λ l. filled_matches matches (all_longer 1 l)) (no_fronts c.args.text.now) ∙ nothing_filled matches)
