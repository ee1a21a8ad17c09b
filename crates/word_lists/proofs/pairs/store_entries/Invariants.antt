use Rattle.std.proofs.Common.{◌≡◌, ◌++◌, List, length}
use Rattle.cedarwood.specs.Queries.{Entry}
use Rattle.cedarwood.specs.Builds.{all_stored}
use Rattle.word_lists.proofs.pairs.store_entries.Given as goal

-- the entries that came are stored
abbrev pub invariant-loop-value : goal.invariant-loop-value
invariant-loop-value g l =
    (came : List Entry) × (l.fn.entries ≡ came ++ l.entries)
    × (l.trie.state ≡ all_stored l.fn.trie.state came)
    × (l.trie.max_trial ≡ l.fn.trie.max_trial)

abbrev pub decreases-loop-value : goal.decreases-loop-value
decreases-loop-value g l = length l.entries
