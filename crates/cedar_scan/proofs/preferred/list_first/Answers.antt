use Rattle.std.proofs.Common.{◌≡◌, ◌+◌, ◌<◌, List, Option, ℤ, arith, get_or, length, None, subst, sym}
use Rattle.cedar_scan.specs.declared.state.PlacedNode.{PlacedNode}
use Rattle.cedar_scan.specs.Preferred.{AreFirst, AreLeast}
use Rattle.cedar_scan.proofs.FirstNodesLemmas.{above_below, all_first, none_first, none_least, one_first, slot_least}
use Rattle.cedar_scan.proofs.preferred.list_first.Goals as goal

pub loop-node-init : goal.loop-node-init
loop-node-init g c = record {
  least = none_least (g.T.Placed.tree c.args.trie.now) (g.T.Placed.slot_of c.args.trie.now) c.requires.placed c.args.nodes.now c.requires.nodes c.requires.sorted c.args.least.now c.requires.some c.requires.free;
  first = none_first (g.T.Placed.tree c.args.trie.now) (g.T.Placed.slot_of c.args.trie.now) c.requires.placed c.args.nodes.now c.requires.nodes c.requires.sorted c.new-first.result.items c.new-first.ensures.items;
}

pub first_node-kept-requires-clause-parent : goal.first_node-kept-requires-clause-parent
first_node-kept-requires-clause-parent g c =
    let d : PlacedNode = record { slot = 0; parent = 0; depth = 0; label = 0; number = None } in
    let low = above_below (g.T.Placed.tree c.args.trie.now) (g.T.Placed.slot_of c.args.trie.now) c.requires.placed c.args.nodes.now c.requires.nodes c.requires.sorted c.loop-node.node-index d c.loop-node-test.true c.loop-node.least c.loop-node.invariant.least (length c.args.least.now) c.requires.some c.requires.within in
    let same = c.loop-node.auto.least in
    omega (arith, low, same)

pub first_node-kept-requires-clause-slot : goal.first_node-kept-requires-clause-slot
first_node-kept-requires-clause-slot g c =
    let d : PlacedNode = record { slot = 0; parent = 0; depth = 0; label = 0; number = None } in
    let low = c.requires.within c.loop-node.node-index d c.loop-node-test.true in
    let same = c.loop-node.auto.least in
    omega (arith, low, same)

pub loop-node-preserved : goal.loop-node-preserved
loop-node-preserved g c =
    let d : PlacedNode = record { slot = 0; parent = 0; depth = 0; label = 0; number = None } in
    let t = g.T.Placed.tree c.args.trie.now in
    let slots = g.T.Placed.slot_of c.args.trie.now in
    let i = c.loop-node.node-index in
    let inside = c.loop-node-test.true in
    let low = c.requires.within i d inside in
    let same = c.loop-node.auto.least in
    let fits : (get_or c.args.nodes.now i d).slot < length c.loop-node.least = omega (arith, low, same) in
    record {
      least = subst (λ (l : List (Option ℤ)). AreLeast t slots c.args.nodes.now (i + 1) l) (sym c.first_node-kept.ensures.least)
          (slot_least t slots c.requires.placed c.args.nodes.now c.requires.nodes c.requires.sorted i d inside c.loop-node.least c.loop-node.invariant.least fits);
      first = subst (λ (l : List PlacedNode). AreFirst t slots c.args.nodes.now (i + 1) l) (sym c.in_ok-push.ensures.items)
          (one_first t slots c.requires.placed c.args.nodes.now c.requires.nodes c.requires.sorted i d inside c.loop-node.least c.loop-node.invariant.least c.loop-node.first.items c.loop-node.invariant.first c.first_node-kept.result c.first_node-kept.ensures.node);
    }

pub returns : goal.returns
returns g c =
    let t = g.T.Placed.tree c.args.trie.now in
    let slots = g.T.Placed.slot_of c.args.trie.now in
    let high = c.loop-node-test.false in
    let low = c.loop-node.auto.node-index-end in
    let all : c.loop-node.node-index ≡ length c.args.nodes.now = omega (arith, low, high) in
    all_first t slots c.requires.placed c.args.nodes.now c.requires.nodes c.requires.sorted c.loop-node.first.items
    (subst (λ n. AreFirst t slots c.args.nodes.now n c.loop-node.first.items) all c.loop-node.invariant.first)
