use Rattle.std.proofs.Common.{take, bit_xor}
use Rattle.cedar_slots.specs.Places.{IsTable}
use Rattle.cedar_table.specs.Table.Views.{cells, fields}
use Rattle.cedar_model.specs.Table.TableFields.{SameFrame}
use Rattle.cedar_model.proofs.RelocationLemmas.MovedAround.{Reserving}
use Rattle.cedar_edit.proofs.relocation.moving.relocate_with.Given as goal

abbrev pub invariant-loop-other : goal.invariant-loop-other
invariant-loop-other g l = record {
  sound : IsTable g.row.SLOTS (fields l.table).places;
  reserving : Reserving (cells l.initial.table) (cells l.table) l.parent l.new_base (bit_xor l.new_base l.label) l.reserved (take l.other-index l.labels);
  frame : SameFrame (fields l.initial.table) (fields l.table);
}
