use Rattle.std.proofs.Common.{arith}
use Rattle.cedarwood.proofs.ShrinkLemmas.{replaced, stays}
use Rattle.cedarwood.proofs.trie.Trie.shrink_to_fit.Goals as goal

pub returns-then-node_capacity : goal.returns-then-node_capacity
returns-then-node_capacity g c = stays g.L.Layout.kind g.row.SLOTS c.args.self.now c.in_ok-made.made c.in_ok-made.ensures (omega arith)

pub returns : goal.returns
returns g c = replaced g.L.Layout.kind g.row.SLOTS c.args.self.now c.in_ok-made.made c.in_ok-made.ensures (omega arith)
