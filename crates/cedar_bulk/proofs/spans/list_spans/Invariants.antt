use Rattle.std.proofs.Common.{length, ◌-◌, drop}
use Rattle.cedar_model.specs.Tree.{Forest}
use Rattle.cedar_bulk.specs.Sorted.{entries_by}
use Rattle.cedar_bulk.specs.Spans.{Lists, parts_of}
use Rattle.cedar_bulk.proofs.BulkLemmas.Spans.{Pushed, Scan}
use Rattle.cedar_bulk.proofs.spans.list_spans.Given as goal

-- the labels and the spans of the pairs that were met
abbrev pub invariant-loop-start : goal.invariant-loop-start
invariant-loop-start g l =
    (f : Forest) → Lists l.depth (entries_by g.K.AsSlice.items l.pairs) f
    → Scan l.depth (drop l.start (entries_by g.K.AsSlice.items l.pairs)) f l.fn.number l.wanted.items
    × Pushed l.depth (drop l.start (entries_by g.K.AsSlice.items l.pairs)) f 0 (parts_of g.K.AsSlice.items l.initial.pending.items) (parts_of g.K.AsSlice.items l.pending.items)

abbrev pub decreases-loop-start : goal.decreases-loop-start
decreases-loop-start g l = length l.pairs - l.start
