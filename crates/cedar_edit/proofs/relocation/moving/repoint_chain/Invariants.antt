use Rattle.std.proofs.Common.{length}
use Rattle.cedar_slots.specs.Places.{IsTable}
use Rattle.cedar_model.specs.Meaning.Reading.{chain}
use Rattle.cedar_table.specs.Table.Views.{cells, fields}
use Rattle.cedar_model.specs.Table.TableFields.{SameFrame}
use Rattle.cedar_model.proofs.RelocationLemmas.Repointed.{Walked}
use Rattle.cedar_edit.proofs.relocation.moving.repoint_chain.Given as goal

abbrev pub invariant-loop-label : goal.invariant-loop-label
invariant-loop-label g l = record {
  sound : IsTable g.row.SLOTS (fields l.table).places;
  walked : Walked (cells l.initial.table) (cells l.table) l.from l.to l.first l.label;
  frame : SameFrame (fields l.initial.table) (fields l.table);
}

-- how much of the chain is left
abbrev pub decreases-loop-label : goal.decreases-loop-label
decreases-loop-label g l = length (chain 256 (cells l.initial.table) l.from l.label)
