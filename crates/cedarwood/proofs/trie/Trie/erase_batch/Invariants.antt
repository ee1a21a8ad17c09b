use Rattle.std.proofs.Common.{◌≡◌, drop, take}
use Rattle.cedar_walk.specs.Batch.{keys_of}
use Rattle.cedarwood.specs.Batches.{IsErasures}
use Rattle.cedarwood.proofs.trie.Trie.erase_batch.Given as goal

-- the keys before this one are erased, and their results are known
abbrev pub invariant-loop-index : goal.invariant-loop-index
invariant-loop-index g l =
    IsErasures l.initial.self l.self (take l.index (keys_of l.keys)) (take l.index l.answers)
    × (drop l.index l.answers ≡ drop l.index l.initial.answers)
