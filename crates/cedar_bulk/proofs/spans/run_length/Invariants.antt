use Rattle.std.proofs.Common.{length, ◌-◌, ◌≤◌, ◌<◌}
use Rattle.cedar_bulk.specs.Sorted.{entries_by, run}
use Rattle.cedar_bulk.proofs.spans.run_length.Given as goal

-- so many have the label
abbrev pub invariant-loop-low : goal.invariant-loop-low
invariant-loop-low g l = (0 < l.low) × (l.low ≤ run l.depth l.label (entries_by g.K.AsSlice.items l.pairs)) × (run l.depth l.label (entries_by g.K.AsSlice.items l.pairs) ≤ l.last) × (l.last < length l.pairs)

abbrev pub decreases-loop-low : goal.decreases-loop-low
decreases-loop-low g l = l.last - l.low
