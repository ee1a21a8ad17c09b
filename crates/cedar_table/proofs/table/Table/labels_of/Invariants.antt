use Rattle.std.proofs.Common.{length}
use Rattle.cedar_model.specs.Meaning.Reading.{chain}
use Rattle.cedar_table.specs.Table.Views.{cells}
use Rattle.cedar_model.proofs.MeaningLemmas.LabelList.{Listed}
use Rattle.cedar_table.proofs.table.Table.labels_of.Given as goal

abbrev pub invariant-loop-label : goal.invariant-loop-label
invariant-loop-label g l = Listed (cells l.self) l.node l.initial.label l.label l.initial.labels.items l.labels.items

-- how much of the chain is left
abbrev pub decreases-loop-label : goal.decreases-loop-label
decreases-loop-label g l = length (chain 256 (cells l.self) l.node l.label)
