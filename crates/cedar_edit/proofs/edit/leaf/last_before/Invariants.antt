use Rattle.std.proofs.Common.{ℕ, ◌+◌, ◌<◌, List, length}
use Rattle.cedar_model.specs.Edit.NodeEdits.{IsBehind}
use Rattle.cedar_model.specs.Meaning.Family.{Links}
use Rattle.cedar_table.specs.Table.Views.{cells, fields}
use Rattle.cedar_model.specs.Table.TableFields.{size_of}
use Rattle.cedar_edit.proofs.edit.leaf.last_before.Given as goal

-- the label goes behind this slot, or further on
abbrev pub invariant-loop-step : goal.invariant-loop-step
invariant-loop-step g l = record {
  inside : l.before < size_of (fields l.table);
  behind : IsBehind (cells l.table) (fields l.table).ordered l.node l.label l.before;
  rest : List ℕ;
  links : Links (cells l.table) l.node ((cells l.table).sibling l.before) rest;
  short : length rest + l._step < 256;
}
