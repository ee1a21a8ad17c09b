use Rattle.cedar_scan.specs.Places.{placed_by}
use Rattle.cedar_scan.specs.Automata.{AreLaid}
use Rattle.cedar_scan.proofs.build.place_nodes.Given as goal

abbrev pub invariant-loop-node : goal.invariant-loop-node
invariant-loop-node g l = AreLaid (g.T.Placed.tree l.trie) (placed_by l.places (g.T.Placed.slot_of l.trie)) l.nodes l.node-index l.states
