use Rattle.std.proofs.Common.{◌≡◌, ◌-◌, drop, length}
use Rattle.cedarwood.specs.RangeWalks.{entries_left, IsRangePlace}
use Rattle.cedar_c.proofs.EntryLemmas.{IsWritten}
use Rattle.cedar_c.proofs.entries.write_page.Given as goal

-- what is written so far, and then what the walk has left, is the whole page
abbrev pub invariant-loop-count : goal.invariant-loop-count
invariant-loop-count g l =
    IsRangePlace (g.T.Walked.shown l.fn.trie) l.fn.start l.next
    × IsWritten l.fn.prefix (entries_left (g.T.Walked.shown l.fn.trie) l.fn.start l.fn.first) (entries_left (g.T.Walked.shown l.fn.trie) l.fn.start l.next) l.fn.found l.found l.fn.bytes l.bytes l.count l.used
    × (entries_left (g.T.Walked.shown l.fn.trie) l.fn.start l.next ≡ drop l.count (entries_left (g.T.Walked.shown l.fn.trie) l.fn.start l.fn.first))

abbrev pub decreases-loop-count : goal.decreases-loop-count
decreases-loop-count g l = length l.initial.found - l.count
