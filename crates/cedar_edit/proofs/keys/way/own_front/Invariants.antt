use Rattle.std.proofs.Common.{drop, take, ◌<◌}
use Rattle.cedar_model.specs.Tree.{IsPath}
use Rattle.cedar_model.specs.Edit.NodeEdits.{IsAt}
use Rattle.cedar_model.specs.Edit.Own.{HasWay}
use Rattle.cedar_table.specs.Table.Views.{cells, fields}
use Rattle.cedar_model.specs.Table.TableFields.{size_of}
use Rattle.cedar_edit.proofs.keys.way.own_front.Given as goal

-- the labels so far lead to the node, and none of the nodes before it is in the way
abbrev pub invariant-loop-length : goal.invariant-loop-length
invariant-loop-length g l = record {
  inside : l.node < size_of (fields l.table);
  at : IsAt (cells l.table) (take l.length l.key) l.node;
  bytes : IsPath (drop l.length l.key);
  way : HasWay (cells l.table) l.node (drop l.length l.key) → HasWay (cells l.table) 0 l.key;
}
