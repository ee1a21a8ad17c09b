use Rattle.std.proofs.Common.{◌≡◌, ℕ, ◌++◌, None, length}
use Rattle.std.specs.Prelude.{option_to_list}
use Rattle.cedar_model.specs.Tree.{Forest}
use Rattle.cedar_bulk.specs.Packed.{Packed}
use Rattle.cedar_bulk.specs.Spans.{Filling, parts_of, work}
use Rattle.cedar_model.specs.Edit.Steps.{MakesBlocks}
use Rattle.cedar_table.specs.Table.Views.{cells, fields}
use Rattle.cedar_model.specs.Table.TableFields.{SameSettings}
use Rattle.cedar_bulk.proofs.sorted.fill_pending.Given as goal

-- the next span is one of those that wait, and none is next only where none waits
abbrev pub invariant-loop-next : goal.invariant-loop-next
invariant-loop-next g l = record {
  filling : (f : Forest) (most : ℕ) → Filling g.row.SLOTS (fields l.initial.table) (parts_of g.K.AsSlice.items (l.initial.pending.items ++ option_to_list l.initial.next)) f most
      → Filling g.row.SLOTS (fields l.table) (parts_of g.K.AsSlice.items (l.pending.items ++ option_to_list l.next)) f most;
  packs : (f : Forest) (most : ℕ) → Filling g.row.SLOTS (fields l.initial.table) (parts_of g.K.AsSlice.items (l.initial.pending.items ++ option_to_list l.initial.next)) f most
      → Packed (fields l.initial.table) (parts_of g.K.AsSlice.items (l.initial.pending.items ++ option_to_list l.initial.next)) f
      → Packed (fields l.table) (parts_of g.K.AsSlice.items (l.pending.items ++ option_to_list l.next)) f;
  last : l.next ≡ None → length l.pending.items ≡ 0;
  blocks : (n : ℕ) × MakesBlocks n (fields l.initial.table) (fields l.table);
  root_check : (cells l.table).check 0 ≡ (cells l.initial.table).check 0;
  settings : SameSettings (fields l.initial.table) (fields l.table);
}

abbrev pub decreases-loop-next : goal.decreases-loop-next
decreases-loop-next g l = work (parts_of g.K.AsSlice.items (l.pending.items ++ option_to_list l.next))
