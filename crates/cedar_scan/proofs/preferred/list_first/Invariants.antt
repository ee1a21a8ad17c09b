use Rattle.cedar_scan.specs.Preferred.{AreFirst, AreLeast}
use Rattle.cedar_scan.proofs.preferred.list_first.Given as goal

-- of the first nodes the least number on the way is known, and they are listed
abbrev pub invariant-loop-node : goal.invariant-loop-node
invariant-loop-node g l = record {
  least : AreLeast (g.T.Placed.tree l.trie) (g.T.Placed.slot_of l.trie) l.nodes l.node-index l.least;
  first : AreFirst (g.T.Placed.tree l.trie) (g.T.Placed.slot_of l.trie) l.nodes l.node-index l.first.items;
}
