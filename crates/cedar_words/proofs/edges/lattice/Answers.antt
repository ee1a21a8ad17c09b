use Rattle.std.proofs.Common.{arith}
use Rattle.cedar_words.proofs.LatticeLemmas.{edges_new, stop_new}
use Rattle.cedar_words.proofs.edges.lattice.Goals as goal

pub invariant_of-result : goal.invariant_of-result
invariant_of-result g c =
    let told = c.stop_at-stop.ensures in
    stop_new c.args.trie.now.state.tree (g.M.CostModel.unknown_at c.args.model.now c.args.text.now) c.args.text.now 0 c.stop_at-stop.result _ _ (omega arith) told.place told.keys told.run c.common_prefix_iter_bytes-walk.ensures.rest

pub returns : goal.returns
returns g c =
    let told = c.stop_at-stop.ensures in
    edges_new c.args.trie.now.state.tree (g.M.CostModel.key_cost c.args.model.now) (g.M.CostModel.unknown_at c.args.model.now c.args.text.now) c.args.text.now 0 c.stop_at-stop.result _ _ told.place told.keys told.run c.common_prefix_iter_bytes-walk.ensures.rest
