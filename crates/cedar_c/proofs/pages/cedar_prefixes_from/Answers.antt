use Rattle.std.proofs.Common.{rules, ◌≡◌, ◌∙◌, [], None, ap}
use Rattle.cedarwood.specs.Queries.{front}
use Rattle.cedar_c.specs.Matches.{all_longer}
use Rattle.cedar_c.specs.Readings.{shown_in, shown_tree}
use Rattle.cedar_c.proofs.ClosedLemmas.{closed_is_empty}
use Rattle.cedar_c.proofs.MatchLemmas.{no_fronts, nothing_told}
use Rattle.cedar_c.proofs.pages.cedar_prefixes_from.Goals as goal

pub returns-then-not-is_open-clause-count : goal.returns-then-not-is_open-clause-count
returns-then-not-is_open-clause-count c =
    let closed : shown_in c.args.handle.now ≡ None = search rules in
    let all = front (shown_tree c.args.handle.now) c.args.text.now in
    let none : all ≡ [] = ap (λ t. front t c.args.text.now) (closed_is_empty (shown_in c.args.handle.now) closed) ∙ no_fronts c.args.text.now in
    (nothing_told c.args.matches.now c.args.next.now all none).0

pub returns-then-not-is_open-clause-filled : goal.returns-then-not-is_open-clause-filled
returns-then-not-is_open-clause-filled c =
    let closed : shown_in c.args.handle.now ≡ None = search rules in
    let all = front (shown_tree c.args.handle.now) c.args.text.now in
    let none : all ≡ [] = ap (λ t. front t c.args.text.now) (closed_is_empty (shown_in c.args.handle.now) closed) ∙ no_fronts c.args.text.now in
    (nothing_told c.args.matches.now c.args.next.now (all_longer 1 all) (ap (all_longer 1) none)).1
