use Rattle.std.proofs.Common.{length}
use Rattle.cedar_model.specs.Meaning.Reading.{chain}
use Rattle.cedar_table.specs.Table.Views.{cells}
use Rattle.cedar_model.proofs.RelocationLemmas.LongerChain.{InStep}
use Rattle.cedar_edit.proofs.relocation.resolve.is_longer.Given as goal

abbrev pub invariant-loop-left : goal.invariant-loop-left
invariant-loop-left g l = InStep (cells l.table) l.one l.other l.initial.left l.initial.right l.left l.right

-- how much of the first chain is left
abbrev pub decreases-loop-left : goal.decreases-loop-left
decreases-loop-left g l = length (chain 256 (cells l.table) l.one l.left)
