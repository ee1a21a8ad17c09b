use Rattle.std.proofs.Common.{◌≡◌, ◌≤◌, ◌-◌, ◌⊎◌, ◌++◌, drop, length, take}
use Rattle.cedar_c.specs.Scans.{found_tokens}
use Rattle.cedar_c.proofs.scans.cut.Given as goal

-- what is written, and then the tokens of the rest, is all
abbrev pub invariant-loop-next : goal.invariant-loop-next
invariant-loop-next g l =
    (found_tokens (g.T.LongestPrefix.tree l.fn.trie) l.fn.next (drop l.fn.next l.text) ≡ take l.count l.found ++ found_tokens (g.T.LongestPrefix.tree l.fn.trie) l.next (drop l.next l.text))
    × (l.count ≤ length l.found) × (l.fn.next ≤ l.next) × (length l.found ≡ length l.fn.found) × ((l.next ≤ length l.text) ⊎ (l.next ≡ l.fn.next))

abbrev pub decreases-loop-next : goal.decreases-loop-next
decreases-loop-next g l = length l.found - l.count
