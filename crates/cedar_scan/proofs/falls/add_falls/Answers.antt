use Rattle.std.proofs.Common.{◌≡◌, ◌∙◌, arith, length, None, subst}
use Rattle.cedar_scan.specs.Places.{placed_by}
use Rattle.cedar_scan.specs.declared.state.PlacedNode.{PlacedNode}
use Rattle.cedar_scan.specs.Falls.{AreFallsFirst}
use Rattle.cedar_scan.proofs.FallLemmas.{all_fall, can_fall, falls_next, falls_none}
use Rattle.cedar_scan.proofs.falls.add_falls.Goals as goal

pub loop-node-init : goal.loop-node-init
loop-node-init g c = falls_none (g.T.Placed.tree c.args.trie.now) (placed_by c.args.places.now (g.T.Placed.slot_of c.args.trie.now)) c.requires.placed c.args.nodes.now c.requires.nodes c.args.states.now c.requires.goto c.requires.sorted c.args.falls.now c.args.popped.now.items

pub add_fall-requires : goal.add_fall-requires
add_fall-requires g c =
    let d : PlacedNode = record { slot = 0; parent = 0; depth = 0; label = 0; number = None } in
    can_fall (g.T.Placed.tree c.args.trie.now) (placed_by c.args.places.now (g.T.Placed.slot_of c.args.trie.now)) c.requires.placed c.args.nodes.now c.requires.nodes c.args.states.now c.requires.goto c.requires.sorted c.loop-node.node-index d c.loop-node-test.true c.loop-node.falls c.loop-node.popped.items
    (c.loop-node.auto.falls ∙ c.requires.size) c.loop-node.invariant

pub loop-node-preserved : goal.loop-node-preserved
loop-node-preserved g c =
    let d : PlacedNode = record { slot = 0; parent = 0; depth = 0; label = 0; number = None } in
    falls_next (g.T.Placed.tree c.args.trie.now) (placed_by c.args.places.now (g.T.Placed.slot_of c.args.trie.now)) c.requires.placed c.args.nodes.now c.requires.nodes c.args.states.now c.requires.goto c.requires.sorted c.loop-node.node-index d c.loop-node-test.true c.loop-node.falls c.loop-node.popped.items
    (c.loop-node.auto.falls ∙ c.requires.size) c.loop-node.invariant c.add_fall.new.falls c.add_fall.new.popped.items c.in_ok-add_fall.ensures

pub returns : goal.returns
returns g c =
    let high = c.loop-node-test.false in
    let low = c.loop-node.auto.node-index-end in
    let all : c.loop-node.node-index ≡ length c.args.nodes.now = omega (arith, low, high) in
    all_fall (g.T.Placed.tree c.args.trie.now) (placed_by c.args.places.now (g.T.Placed.slot_of c.args.trie.now)) c.requires.placed c.args.nodes.now c.requires.nodes c.args.states.now c.requires.goto c.requires.sorted c.loop-node.falls c.loop-node.popped.items
    (subst (λ n. AreFallsFirst (g.T.Placed.tree c.args.trie.now) (placed_by c.args.places.now (g.T.Placed.slot_of c.args.trie.now)) c.args.nodes.now n c.loop-node.falls c.loop-node.popped.items) all c.loop-node.invariant)
