use Rattle.std.proofs.Common.{◌≡◌, ◌≤◌, ◌-◌, ◌⊎◌, length, take}
use Rattle.cedar_c.specs.Scans.{found_keywords, WritesPiece}
use Rattle.cedar_c.proofs.keywords.keywords.Given as goal

-- what is written, and then the keywords of the rest, is all
abbrev pub invariant-loop-next : goal.invariant-loop-next
invariant-loop-next g l =
    WritesPiece (found_keywords (g.T.LongestPrefix.tree l.fn.trie)) l.text l.fn.next l.next (take l.count l.found)
    × (l.count ≤ length l.found) × (l.fn.next ≤ l.next) × (length l.found ≡ length l.fn.found) × ((l.next ≤ length l.text) ⊎ (l.next ≡ l.fn.next))

abbrev pub decreases-loop-next : goal.decreases-loop-next
decreases-loop-next g l = length l.text - l.next
