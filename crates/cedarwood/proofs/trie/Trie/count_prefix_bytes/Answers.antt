use Rattle.std.proofs.Common.{◌∙◌, ◌<◌, ◌^◌, sym, subst, inl, length, arith}
use Rattle.std.proofs.lemmas.Iterator.Consumers.{count_from_yields_List, YieldsList-from_first}
use Rattle.cedar_tree.specs.Queries.{predict, walk}
use Rattle.cedarwood.proofs.CountLemmas.{predicted_count, predictions_fit}
use Rattle.cedarwood.proofs.trie.Trie.count_prefix_bytes.Goals as goal

pub count-requires-clause-fits : goal.count-requires-clause-fits
count-requires-clause-fits g c =
    let few : length (walk c.args.self.now.state.tree) < 2 ^ 64 = omega (arith, c.len-all.ensures.count) in
    let fit : length c.common_prefix_predict_iter_bytes.result < 2 ^ 64 =
    subst (λ xs. length xs < 2 ^ 64) (sym c.common_prefix_predict_iter_bytes.ensures) (predictions_fit c.args.self.now.state.tree c.args.prefix.now few) in
    inl (omega (arith, fit))

pub returns : goal.returns
returns g c =
    let tree = c.args.self.now.state.tree in
    let query = c.args.prefix.now in
    count_from_yields_List _ c.count.result c.count.ensures.ran (YieldsList-from_first (λ x. x) (λ rest. rest) (predict tree query) c.common_prefix_predict_iter_bytes.ensures)
    ∙ predicted_count tree query
