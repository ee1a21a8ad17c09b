use Rattle.std.proofs.Common.{rules, ◌<◌, ◌^◌, ◌∙◌, ap, sym, subst, drop, length}
use Rattle.std.proofs.lemmas.List.{drop-map}
use Rattle.cedarwood.specs.Queries.{front}
use Rattle.cedar_c.specs.Matches.{Fit, filled_matches, all_longer, longer}
use Rattle.cedar_c.proofs.MatchLemmas.{fronts_fit}
use Rattle.cedar_c.proofs.ScanLemmas.{fronts_are_short}
use Rattle.cedar_c.proofs.pages.go_on_prefixes.Goals as goal

pub go_on-requires-clause-count : goal.go_on-requires-clause-count
go_on-requires-clause-count g c =
    let short : length c.args.text.now < 2 ^ 64 = search rules in
    subst (λ xs. length xs < 2 ^ 64) (sym c.common_prefix_iter_bytes.ensures.rest) (fronts_fit c.args.trie.now.state.tree c.args.text.now short)

pub go_on-requires-clause-fit : goal.go_on-requires-clause-fit
go_on-requires-clause-fit g c =
    let short : length c.args.text.now < 2 ^ 64 = search rules in
    subst (Fit 1) (sym c.common_prefix_iter_bytes.ensures.rest) (fronts_are_short c.args.trie.now.state.tree c.args.text.now short)

pub returns-clause-filled : goal.returns-clause-filled
returns-clause-filled g c =
    let matches = c.args.matches.now in
    let next = c.args.next.now in
    c.go_on.ensures.filled
    ∙ ap (λ l. filled_matches matches (all_longer 1 (drop next l))) c.common_prefix_iter_bytes.ensures.rest
    ∙ ap (filled_matches matches) (sym (drop-map (longer 1) next (front c.args.trie.now.state.tree c.args.text.now)))
