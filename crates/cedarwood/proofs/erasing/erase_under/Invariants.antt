use Rattle.std.proofs.Common.{length}
use Rattle.cedar_model.specs.Meaning.WellFormed.{tree_of}
use Rattle.cedar_table.specs.Table.Views.{fields}
use Rattle.cedar_walk.specs.Ranges.{entries_with}
use Rattle.cedarwood.proofs.ErasureLemmas.{Erases}
use Rattle.cedarwood.proofs.erasing.erase_under.Given as goal

abbrev pub invariant-loop-found : goal.invariant-loop-found
invariant-loop-found g l = Erases g.row.SLOTS (fields l.initial.table) (fields l.table) l.prefix

abbrev pub decreases-loop-found : goal.decreases-loop-found
decreases-loop-found g l = length (entries_with (tree_of (fields l.table)) l.prefix)
