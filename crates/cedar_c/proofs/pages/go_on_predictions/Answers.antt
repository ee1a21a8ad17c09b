use Rattle.std.proofs.Common.{rules, ◌<◌, ◌^◌, ◌∙◌, ap, sym, subst, drop, length, arith}
use Rattle.std.proofs.lemmas.List.{drop-map}
use Rattle.cedarwood.specs.Queries.{predict, walk, prefixes}
use Rattle.cedar_c.specs.Matches.{Fit, filled_matches, all_longer, longer}
use Rattle.cedar_c.proofs.LengthLemmas.{predicted_fit, predicted_whole, prefixes_are_few}
use Rattle.cedarwood.proofs.CountLemmas.{predictions_fit}
use Rattle.cedar_c.proofs.pages.go_on_predictions.Goals as goal

pub go_on-requires-clause-count : goal.go_on-requires-clause-count
go_on-requires-clause-count g c =
    let few : length (walk c.args.trie.now.state.tree) < 2 ^ 64 = omega (arith, c.len.ensures.count) in
    subst (λ xs. length xs < 2 ^ 64) (sym c.common_prefix_predict_iter_bytes.ensures) (predictions_fit c.args.trie.now.state.tree c.args.text.now few)

pub go_on-requires-clause-fit : goal.go_on-requires-clause-fit
go_on-requires-clause-fit g c =
    let text = c.args.text.now in
    let short : length text < 2 ^ 64 = search rules in
    let small : length (prefixes c.args.trie.now.state.tree) < 2 ^ 64 = prefixes_are_few _ c.args.trie.now c.stands_on_its_table.ensures in
    subst (Fit (length text)) (sym c.common_prefix_predict_iter_bytes.ensures) (predicted_fit c.args.trie.now.state.tree text small short)

pub returns-clause-filled : goal.returns-clause-filled
returns-clause-filled g c =
    let matches = c.args.matches.now in
    let text = c.args.text.now in
    let next = c.args.next.now in
    let tree = c.args.trie.now.state.tree in
    c.go_on.ensures.filled
    ∙ ap (λ l. filled_matches matches (all_longer (length text) (drop next l))) c.common_prefix_predict_iter_bytes.ensures
    ∙ ap (filled_matches matches) (sym (drop-map (longer (length text)) next (predict tree text)) ∙ ap (drop next) (predicted_whole tree text))
