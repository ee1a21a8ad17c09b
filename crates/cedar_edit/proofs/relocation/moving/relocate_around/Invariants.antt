use Rattle.std.proofs.Common.{take}
use Rattle.cedar_slots.specs.Places.{IsTable}
use Rattle.cedar_table.specs.Table.Views.{cells, fields}
use Rattle.cedar_model.specs.Table.TableFields.{SameFrame}
use Rattle.cedar_model.proofs.RelocationLemmas.MovedAround.{Passing}
use Rattle.cedar_edit.proofs.relocation.moving.relocate_around.Given as goal

abbrev pub invariant-loop-label : goal.invariant-loop-label
invariant-loop-label g l = record {
  sound : IsTable g.row.SLOTS (fields l.table).places;
  passing : Passing (cells l.initial.table) (cells l.table) l.parent l.base l.wanted (take l.label-index l.labels);
  frame : SameFrame (fields l.initial.table) (fields l.table);
}
