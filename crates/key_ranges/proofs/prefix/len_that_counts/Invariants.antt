use Rattle.std.proofs.Common.{◌≡◌, ◌≤◌, length, take}
use Rattle.key_ranges.specs.Spans.{successor}
use Rattle.key_ranges.proofs.prefix.len_that_counts.Given as goal

-- the bytes that were left out make no difference
abbrev pub invariant-loop-len : goal.invariant-loop-len
invariant-loop-len l = (l.len ≤ length l.fn.prefix) × (successor (take l.len l.fn.prefix) ≡ successor l.fn.prefix)

abbrev pub decreases-loop-len : goal.decreases-loop-len
decreases-loop-len l = l.len
