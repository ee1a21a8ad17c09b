use Rattle.std.proofs.Common.{◌≡◌, ◌+◌}
use Rattle.cedar_slots.proofs.ListsLemmas.FreeCounts.{sum_below}
use Rattle.cedar_table.specs.Table.Views.{fields}
use Rattle.cedar_file.proofs.check.tree.count_held.Given as goal

abbrev pub invariant-loop-block : goal.invariant-loop-block
invariant-loop-block g l = (l.free ≡ sum_below (fields l.table).places.slots.nodes l.block) × (l.reads ≡ l.initial.reads + l.block)
