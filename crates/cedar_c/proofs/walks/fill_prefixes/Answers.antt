use Rattle.std.proofs.Common.{rules, ◌<◌, ◌^◌, sym, subst, length}
use Rattle.cedar_c.specs.Matches.{Fit}
use Rattle.cedar_c.proofs.MatchLemmas.{fronts_fit}
use Rattle.cedar_c.proofs.ScanLemmas.{fronts_are_short}
use Rattle.cedar_c.proofs.walks.fill_prefixes.Goals as goal

pub fill-requires-clause-count : goal.fill-requires-clause-count
fill-requires-clause-count g c =
    let short : length c.args.text.now < 2 ^ 64 = search rules in
    subst (λ xs. length xs < 2 ^ 64) (sym c.common_prefix_iter_bytes.ensures.rest) (fronts_fit c.args.trie.now.state.tree c.args.text.now short)

pub fill-requires-clause-fit : goal.fill-requires-clause-fit
fill-requires-clause-fit g c =
    let short : length c.args.text.now < 2 ^ 64 = search rules in
    subst (Fit 1) (sym c.common_prefix_iter_bytes.ensures.rest) (fronts_are_short c.args.trie.now.state.tree c.args.text.now short)
