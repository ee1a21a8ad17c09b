use Rattle.std.proofs.Common.{◌<◌, take}
use Rattle.cedar_model.specs.Edit.NodeEdits.{IsAt}
use Rattle.cedar_table.specs.Table.Views.{cells, fields}
use Rattle.cedar_model.specs.Table.TableFields.{size_of}
use Rattle.cedar_table.proofs.table.Table.node_of.Given as goal

-- the labels so far lead to the node
abbrev pub invariant-loop-label : goal.invariant-loop-label
invariant-loop-label g l = record {
  inside : l.node < size_of (fields l.self);
  at : IsAt (cells l.self) (take l.label-index l.key) l.node;
}
