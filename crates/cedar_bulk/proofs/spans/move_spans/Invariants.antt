use Rattle.std.proofs.Common.{◌≡◌, ◌≤◌, ◌-◌, length}
use Rattle.cedar_bulk.specs.Spans.{parts_of}
use Rattle.cedar_bulk.proofs.BulkLemmas.MovedSpans.{moved}
use Rattle.cedar_bulk.proofs.spans.move_spans.Given as goal

-- those from the first to this one have moved
abbrev pub invariant-loop-index : goal.invariant-loop-index
invariant-loop-index g l =
    (length l.pending.items ≡ length l.initial.pending.items) × (l.fn.first ≤ l.index) × (l.index ≤ length l.initial.pending.items)
    × (parts_of g.K.AsSlice.items l.pending.items ≡ moved l.fn.first (l.index - l.fn.first) l.fn.base (parts_of g.K.AsSlice.items l.initial.pending.items))
