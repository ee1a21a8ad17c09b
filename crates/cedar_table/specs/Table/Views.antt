-- The fields and the slots of a `Table`.
use Rattle.cedar_slots.specs.Views.{places_of}
use Rattle.cedar_model.specs.declared.layout.Layout.{Ghosts}
use Rattle.cedar_table.specs.declared.table.Table.{Table}
use Rattle.cedar_model.specs.Table.Cells.{Cells, cells_of}
use Rattle.cedar_model.specs.Table.TableFields.{Fields}

-- a `Table` as a record, without what only memory has
abbrev pub fields : {L A : _} {S : _} {g : Ghosts L} → Table L S A g → Fields
fields {L} {A} {S} {g} t = record {
  layout = g.kind;
  ordered = t.ordered;
  entries = t.entries;
  places = places_of t.places;
}

-- the slots of a `Table` as functions of a slot's number
abbrev pub cells : {L A : _} {S : _} {g : Ghosts L} → Table L S A g → Cells
cells t = cells_of (fields t).layout (fields t).places
