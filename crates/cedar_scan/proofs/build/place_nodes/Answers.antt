use Rattle.std.proofs.Common.{length, None}
use Rattle.cedar_scan.specs.Places.{placed_by}
use Rattle.cedar_scan.specs.declared.state.PlacedNode.{PlacedNode}
use Rattle.cedar_scan.proofs.LinkLemmas.{laid_next, parent_inside}
use Rattle.cedar_scan.proofs.build.place_nodes.Goals as goal

pub place_node-requires-clause-parent : goal.place_node-requires-clause-parent
place_node-requires-clause-parent g c =
    let d : PlacedNode = record { slot = 0; parent = 0; depth = 0; label = 0; number = None } in
    parent_inside (g.T.Placed.tree c.args.trie.now) (placed_by c.args.places.now (g.T.Placed.slot_of c.args.trie.now)) c.requires.placed c.args.nodes.now c.requires.nodes (length c.args.states.now) c.requires.some c.requires.within
    c.loop-node.node-index d c.loop-node-test.true c.loop-node.states c.loop-node.auto.states

pub loop-node-preserved : goal.loop-node-preserved
loop-node-preserved g c =
    let d : PlacedNode = record { slot = 0; parent = 0; depth = 0; label = 0; number = None } in
    laid_next (g.T.Placed.tree c.args.trie.now) (placed_by c.args.places.now (g.T.Placed.slot_of c.args.trie.now)) c.requires.placed c.args.nodes.now c.requires.nodes (length c.args.states.now) c.requires.some c.requires.within
    c.loop-node.node-index d c.loop-node-test.true c.loop-node.states c.loop-node.auto.states c.loop-node.invariant c.place_node.new.states c.place_node.ensures
