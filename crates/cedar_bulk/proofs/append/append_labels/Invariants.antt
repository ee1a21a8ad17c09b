use Rattle.std.proofs.Common.{take}
use Rattle.cedar_table.specs.Table.Views.{fields}
use Rattle.cedar_model.specs.Table.TableFields.{size_of}
use Rattle.cedar_bulk.proofs.BulkLemmas.LabelByLabel.{Appending}
use Rattle.cedar_bulk.proofs.append.append_labels.Given as goal

abbrev pub invariant-loop-label : goal.invariant-loop-label
invariant-loop-label g l = Appending g.row.SLOTS (size_of (fields l.initial.table)) (fields l.initial.table) (fields l.table) l.node (take l.label-index l.labels) l.before
