use Rattle.cedar_scan.specs.Places.{placed_by}
use Rattle.cedar_scan.specs.Falls.{AreFallsFirst}
use Rattle.cedar_scan.proofs.falls.add_falls.Given as goal

abbrev pub invariant-loop-node : goal.invariant-loop-node
invariant-loop-node g l = AreFallsFirst (g.T.Placed.tree l.trie) (placed_by l.places (g.T.Placed.slot_of l.trie)) l.nodes l.node-index l.falls l.popped.items
