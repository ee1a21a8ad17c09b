use Rattle.std.proofs.Common.{◌≡◌, ℕ, List, ◌<◌}
use Rattle.cedar_model.specs.Tree.{Forest}
use Rattle.cedar_model.specs.Edit.NodeEdits.{IsAt}
use Rattle.cedar_model.specs.Meaning.Marks.{KeepsMarks}
use Rattle.cedar_model.specs.Meaning.StandsFor.{HoldsTree}
use Rattle.cedar_slots.specs.Places.{IsTable}
use Rattle.cedar_table.specs.Table.Views.{cells, fields}
use Rattle.cedar_model.specs.Table.TableFields.{SameFrame, size_of}
use Rattle.cedar_model.specs.Edit.Trims.{TellsBare}
use Rattle.cedar_model.proofs.UpdateLemmas.TrimUpwards.{Climbs, depth}
use Rattle.cedar_edit.proofs.keys.erase.trim.Given as goal

abbrev pub invariant-loop-bare : goal.invariant-loop-bare
invariant-loop-bare g l = record {
  sound : IsTable g.row.SLOTS (fields l.table).places;
  inside : l.node < size_of (fields l.table);
  tells : TellsBare (size_of (fields l.table)) (cells l.table) l.node l.bare;
  root_check : (cells l.table).check 0 ≡ (cells l.initial.table).check 0;
  marks : KeepsMarks (cells l.initial.table) (cells l.table);
  frame : SameFrame (fields l.initial.table) (fields l.table);
  climbs : (f : Forest) (w : List ℕ) → HoldsTree (size_of (fields l.initial.table)) (cells l.initial.table) f → IsAt (cells l.initial.table) w l.initial.node → Climbs (size_of (fields l.table)) (cells l.table) f w l.node;
}

-- how far it is to the root
abbrev pub decreases-loop-bare : goal.decreases-loop-bare
decreases-loop-bare g l = depth (size_of (fields l.table)) (cells l.table) l.node
