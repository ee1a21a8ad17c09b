use Rattle.std.proofs.Common.{◌≡◌, ◌∙◌, ap, arith, false, inl, inr, int_lt, of_z, pos, rules, sym, to_z, true, w32, ℕ, ℤ, FitsSigned}
use Rattle.std.proofs.lemmas.Bool.{cases_Bool, false≢true}
use Rattle.std.proofs.lemmas.Int.{to_z-of_z}
use Rattle.cedar_slots.specs.declared.records.NodeRecord.{NodeRecord}
use Rattle.cedar_model.specs.Table.Cells.{Cells, Held}
use Rattle.cedar_slots.specs.Slots.{blank_node, check_at}
use Rattle.cedar_table.specs.Table.Views.{cells}
use Rattle.cedar_slots.specs.Views.{places_of}
use Rattle.cedar_model.proofs.CellsLemmas.HeldSlots.{active_is, natural_from, natural_not_below}
use Rattle.cedar_table.proofs.table.Table.is_free_slot.Goals as goal

-- a slot other than the root's is held just where its check is not below 0
held_check : (T : Cells) (s : ℕ) (z : ℤ) → (s ≡ 0 → ⊥) → z ≡ T.check s → Held T s → int_lt z (pos 0) ≡ false
held_check T s z other read (inl root) = absurd (other root)
held_check T s z other read (inr (c, is)) = natural_not_below z c (read ∙ is)

free_check : (T : Cells) (s : ℕ) (z : ℤ) → z ≡ T.check s → (Held T s → ⊥) → int_lt z (pos 0) ≡ true
free_check T s z read free = elim (cases_Bool (int_lt z (pos 0))) [
  | inl below ↦ below
  | inr natural ↦ let c = natural_from z natural in absurd (free (inr (c.0, sym read ∙ c.1)))
]

pub returns : goal.returns
returns g c =
    let r : ℤ = c.at.result.check in
    let fits : FitsSigned w32 r = search rules in
    let same : to_z w32 (of_z w32 r) ≡ r = to_z-of_z w32 r fits in
    let read : r ≡ check_at c.args.self.now.places.slots.nodes.items c.args.slot = ap (λ (n : NodeRecord). n.check) (c.at.ensures blank_node) in
    let cell : to_z w32 (of_z w32 r) ≡ (cells c.args.self.now).check c.args.slot = same ∙ read ∙ sym (active_is g.L.Layout.kind (places_of c.args.self.now.places) c.args.slot c.requires.slot_in) in (
      (λ below held. false≢true (sym (held_check (cells c.args.self.now) c.args.slot _ c.requires.not_root cell held) ∙ below)),
      (λ free. free_check (cells c.args.self.now) c.args.slot _ cell free),
    )

pub at-requires : goal.at-requires
at-requires g c = omega (arith, c.requires.slot_in, c.args.self.now.places.blocks.ready, c.args.self.now.places.nodes_ready)
