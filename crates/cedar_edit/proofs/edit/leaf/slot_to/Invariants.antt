use Rattle.std.proofs.Common.{ℕ, ◌+◌, ◌<◌, List, length}
use Rattle.cedar_model.specs.Edit.NodeEdits.{IsLink}
use Rattle.cedar_model.specs.Meaning.Family.{Among, Links}
use Rattle.cedar_table.specs.Table.Views.{cells, fields}
use Rattle.cedar_model.specs.Table.TableFields.{size_of}
use Rattle.cedar_edit.proofs.edit.leaf.slot_to.Given as goal

-- the label comes in the chain behind this slot
abbrev pub invariant-loop-step : goal.invariant-loop-step
invariant-loop-step g l = record {
  inside : l.before < size_of (fields l.table);
  link : IsLink (cells l.table) l.node l.before;
  rest : List ℕ;
  links : Links (cells l.table) l.node ((cells l.table).sibling l.before) rest;
  has : Among rest l.label;
  short : length rest + l._step < 256;
}
