use Rattle.std.proofs.Common.{rules, ◌≡◌, [], None, ap}
use Rattle.cedarwood.specs.Queries.{predict}
use Rattle.cedar_c.specs.Matches.{predicted_keys}
use Rattle.cedar_c.specs.Readings.{shown_in, shown_tree}
use Rattle.cedar_c.proofs.ClosedLemmas.{closed_is_empty}
use Rattle.cedar_c.proofs.MatchLemmas.{nothing_told}
use Rattle.cedar_c.proofs.pages.cedar_first_predictions.Goals as goal

pub returns-then-not-is_open-clause-count : goal.returns-then-not-is_open-clause-count
returns-then-not-is_open-clause-count c =
    let closed : shown_in c.args.handle.now ≡ None = search rules in
    let all = predict (shown_tree c.args.handle.now) c.args.text.now in
    let none : all ≡ [] = ap (λ t. predict t c.args.text.now) (closed_is_empty (shown_in c.args.handle.now) closed) in
    (nothing_told c.args.matches.now 0 all none).0

pub returns-then-not-is_open-clause-filled : goal.returns-then-not-is_open-clause-filled
returns-then-not-is_open-clause-filled c =
    let closed : shown_in c.args.handle.now ≡ None = search rules in
    let all = predicted_keys (shown_tree c.args.handle.now) c.args.text.now in
    let none : all ≡ [] = ap (λ t. predicted_keys t c.args.text.now) (closed_is_empty (shown_in c.args.handle.now) closed) in
    (nothing_told c.args.matches.now 0 all none).1
