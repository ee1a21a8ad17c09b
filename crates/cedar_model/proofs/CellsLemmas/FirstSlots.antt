-- A new table, of which the root alone is held.
use Rattle.std.proofs.Common.{◌≡◌, ℕ, sym, inl, inr, ◌∙◌, arith, ℤ}
use Rattle.std.proofs.lemmas.Bool.{cases_eq, false≢true}
use Rattle.cedar_slots.specs.Places.{IsNewPlaces, PlaceFields}
use Rattle.cedar_model.specs.Table.Layouts.{LayoutKind}
use Rattle.cedar_model.specs.Table.Cells.{cells_of, Held}
use Rattle.cedar_model.proofs.CellsLemmas.HeldSlots.{held_used}
use Rattle.cedar_slots.proofs.PlacementLemmas.FirstBlock.{root_block_free}

-- in a new table the root alone is held
pub bare_new : (k : LayoutKind) (places : PlaceFields) (trials : ℤ) → IsNewPlaces places trials → (s : ℕ) → Held (cells_of k places) s → s ≡ 0
bare_new k places trials new s held = elim (cases_eq s 0) [
  | inl root ↦ root
  | inr other ↦
      let used = held_used k places s (omega (arith, new.active)) held in
      absurd (false≢true (sym used.1 ∙ root_block_free places.slots.nodes new.steps new.last s (omega arith) (omega (arith, used.0, new.active))))
]
