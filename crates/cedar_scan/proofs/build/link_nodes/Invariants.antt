use Rattle.cedar_scan.specs.Places.{placed_by}
use Rattle.cedar_scan.specs.Automata.{AreLinkedFirst}
use Rattle.cedar_scan.proofs.build.link_nodes.Given as goal

abbrev pub invariant-loop-node : goal.invariant-loop-node
invariant-loop-node g l = AreLinkedFirst (g.T.Placed.tree l.trie) (placed_by l.places (g.T.Placed.slot_of l.trie)) l.nodes l.node-index l.states l.keys.items
