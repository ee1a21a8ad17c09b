use Rattle.std.proofs.Common.{◌≡◌, ◌++◌, drop, length, take}
use Rattle.cedarwood.specs.Batches.{held_in_turn, keys_erased}
use Rattle.cedar_c.specs.Pairs.{named_keys}
use Rattle.cedar_c.proofs.erasures.erase_all.Given as goal

-- the keys before this one are erased, and the results of as many as there is room for are written
abbrev pub invariant-loop-index : goal.invariant-loop-index
invariant-loop-index g l =
    (l.trie.state ≡ keys_erased l.fn.trie.state (take l.index (named_keys l.keys)))
    × (l.held ≡ take (length l.fn.held) (held_in_turn l.fn.trie.state (take l.index (named_keys l.keys))) ++ drop l.index l.fn.held)
    × ((l.trie.size ≡ l.fn.trie.size) × (l.trie.capacity ≡ l.fn.trie.capacity))
    × (l.trie.max_trial ≡ l.fn.trie.max_trial)
    × (l.trie.search_limit ≡ l.fn.trie.search_limit)
