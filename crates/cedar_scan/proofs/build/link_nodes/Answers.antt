use Rattle.std.proofs.lemmas.List.{get_or_default}
use Rattle.std.proofs.Common.{◌≡◌, arith, length, subst}
use Rattle.cedar_scan.specs.Places.{placed_by}
use Rattle.cedar_scan.specs.Automata.{AreLinkedFirst}
use Rattle.cedar_scan.proofs.LinkLemmas.{all_linked, can_link, can_list, linked_more}
use Rattle.cedar_scan.proofs.build.link_nodes.Goals as goal

pub link_node-requires-clause-can : goal.link_node-requires-clause-can
link_node-requires-clause-can g c =
    can_link (g.T.Placed.tree c.args.trie.now) (placed_by c.args.places.now (g.T.Placed.slot_of c.args.trie.now)) c.requires.placed c.args.nodes.now c.requires.nodes c.requires.sorted c.loop-node.node-index c.loop-node-test.true c.loop-node.states c.loop-node.keys.items c.loop-node.invariant _
    (λ d. get_or_default c.args.nodes.now c.loop-node.node-index d _ c.loop-node-test.true) (c.requires.nodes.each c.loop-node.node-index _ c.loop-node-test.true)

pub link_node-requires-clause-listed : goal.link_node-requires-clause-listed
link_node-requires-clause-listed g c =
    can_list (g.T.Placed.tree c.args.trie.now) (placed_by c.args.places.now (g.T.Placed.slot_of c.args.trie.now)) c.requires.placed c.args.nodes.now c.requires.nodes c.requires.sorted c.loop-node.node-index c.loop-node-test.true c.loop-node.states c.loop-node.keys.items c.loop-node.invariant _
    (λ d. get_or_default c.args.nodes.now c.loop-node.node-index d _ c.loop-node-test.true) (c.requires.nodes.each c.loop-node.node-index _ c.loop-node-test.true)

pub loop-node-preserved : goal.loop-node-preserved
loop-node-preserved g c =
    linked_more (g.T.Placed.tree c.args.trie.now) (placed_by c.args.places.now (g.T.Placed.slot_of c.args.trie.now)) c.requires.placed c.args.nodes.now c.requires.nodes c.requires.sorted c.loop-node.node-index c.loop-node-test.true c.loop-node.states c.loop-node.keys.items c.loop-node.invariant _
    (λ d. get_or_default c.args.nodes.now c.loop-node.node-index d _ c.loop-node-test.true) (c.requires.nodes.each c.loop-node.node-index _ c.loop-node-test.true) c.link_node.new.states c.link_node.new.keys.items c.in_ok-link_node.ensures

pub returns : goal.returns
returns g c =
    let t = g.T.Placed.tree c.args.trie.now in
    let slots = placed_by c.args.places.now (g.T.Placed.slot_of c.args.trie.now) in
    let high = c.loop-node-test.false in
    let low = c.loop-node.auto.node-index-end in
    let all : c.loop-node.node-index ≡ length c.args.nodes.now = omega (arith, low, high) in
    all_linked t slots c.requires.placed c.args.nodes.now c.requires.nodes c.loop-node.states c.loop-node.keys.items
    (subst (λ n. AreLinkedFirst t slots c.args.nodes.now n c.loop-node.states c.loop-node.keys.items) all c.loop-node.invariant)
