use Rattle.std.proofs.Common.{length, ◌-◌}
use Rattle.cedar_bulk.specs.Sorted.{entries_by}
use Rattle.cedar_table.specs.Table.Views.{fields}
use Rattle.cedar_bulk.proofs.BulkLemmas.OneKey.{OnTail}
use Rattle.cedar_bulk.proofs.sorted.fill_tail.Given as goal

abbrev pub invariant-loop-depth : goal.invariant-loop-depth
invariant-loop-depth g l = OnTail g.row.SLOTS (fields l.initial.table) (fields l.table) (record { node = l.initial.node; depth = l.initial.depth; entries = entries_by g.K.AsSlice.items l.span.pairs.now }) l.node l.depth

abbrev pub decreases-loop-depth : goal.decreases-loop-depth
decreases-loop-depth g l = length l.key - l.depth
