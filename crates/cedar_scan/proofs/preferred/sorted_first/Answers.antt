use Rattle.std.proofs.Common.{rules, subst, sym}
use Rattle.std.proofs.lemmas.List.Sorted.{IsNonDecreasingBy-from_sort_by_key}
use Rattle.cedar_scan.specs.Automata.{AreByDepth, AreNodes}
use Rattle.cedar_scan.specs.declared.state.PlacedNode.{PlacedNode}
use Rattle.cedar_scan.proofs.LinkLemmas.{sorted_nodes}
use Rattle.cedar_scan.proofs.preferred.sorted_first.Goals as goal

pub first_nodes-requires-clause-nodes : goal.first_nodes-requires-clause-nodes
first_nodes-requires-clause-nodes g c =
    let t = g.T.Placed.tree c.args.trie.now in
    let slots = g.T.Placed.slot_of c.args.trie.now in
    subst (AreNodes t slots) (sym c.deref.ensures.value) (sorted_nodes t slots c.args.nodes.items c.sort_by_key.new.self.items c.sort_by_key.ensures.permutation c.requires.nodes)

pub first_nodes-requires-clause-sorted : goal.first_nodes-requires-clause-sorted
first_nodes-requires-clause-sorted g c =
    subst AreByDepth (sym c.deref.ensures.value) (IsNonDecreasingBy-from_sort_by_key (λ (n : PlacedNode). n.depth) c.sort_by_key.new.self.items c.in_ok-sort_by_key.ensures.sorted (λ a r q k. search rules))
