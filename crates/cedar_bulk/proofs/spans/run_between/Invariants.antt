use Rattle.std.proofs.Common.{length, ◌-◌, ◌≤◌}
use Rattle.cedar_bulk.specs.Sorted.{entries_by, run}
use Rattle.cedar_bulk.proofs.spans.run_between.Given as goal

-- the end lies between the two
abbrev pub invariant-loop-low : goal.invariant-loop-low
invariant-loop-low g l =
    (l.low ≤ run l.depth l.label (entries_by g.K.AsSlice.items l.pairs)) × (run l.depth l.label (entries_by g.K.AsSlice.items l.pairs) ≤ l.high)
    × (l.high ≤ length l.pairs)

abbrev pub decreases-loop-low : goal.decreases-loop-low
decreases-loop-low g l = l.high - l.low
