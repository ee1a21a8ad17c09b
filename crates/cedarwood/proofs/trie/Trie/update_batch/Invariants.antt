use Rattle.std.proofs.Common.{Ok, take}
use Rattle.cedar_bulk.specs.Sorted.{entries_of}
use Rattle.cedarwood.specs.Builds.{IsBuild}
use Rattle.cedarwood.proofs.trie.Trie.update_batch.Given as goal

-- the pairs before this one are stored
abbrev pub invariant-loop-index : goal.invariant-loop-index
invariant-loop-index g l = IsBuild g.L.Layout.kind g.row.SLOTS l.initial.self (take l.index (entries_of l.pairs)) (Ok tt) l.self
