use Rattle.std.proofs.Common.{◌≡◌, ◌<◌, ◌∙◌, arith, inl, inr, rules, subst, sym, ap, Some, ℕ, w32, FitsSigned}
use Rattle.std.proofs.lemmas.Int.{to_z-of_z}
use Rattle.cedar_model.specs.Edits.{edit_at}
use Rattle.cedar_model.specs.Table.Cells.{Held, Takes}
use Rattle.cedar_model.specs.Edit.NodeEdits.{SetsSibling}
use Rattle.cedar_model.specs.Meaning.Family.{below}
use Rattle.cedar_model.specs.Meaning.StandsFor.{HoldsTree}
use Rattle.cedar_model.specs.Relocation.Reserved.{cells_without}
use Rattle.cedar_table.specs.Table.Views.{cells, fields}
use Rattle.cedar_model.specs.Table.TableFields.{size_of}
use Rattle.cedar_model.proofs.EditLemmas.AtPath.{held_node, number_set_at}
use Rattle.cedar_model.proofs.EditLemmas.KeptSlotGiven.{freed_free, slot_far}
use Rattle.cedar_model.proofs.EditLemmas.SlotForLabel.{lead_inside}
use Rattle.cedar_model.proofs.RelocationLemmas.KeptSlot.{freed_root}
use Rattle.cedar_model.proofs.EditLemmas.NumberWritten.{number_taken, root_check_taken}
use Rattle.cedar_edit.proofs.edit.number.set_reserved.Goals as goal

pub claim-requires : goal.claim-requires
claim-requires g c =
    let R = cells c.args.table.now in
    let size = size_of (fields c.args.table.now) in
    let ordered = (fields c.args.table.now).ordered in
    let x : ℕ = below R c.args.node 0 in
    let T = cells_without R x in
    let n = c.requires.node in
    let far : x ≡ 0 → ⊥ = slot_far _ 0 c.requires.based.0 (omega arith) in
    let e : c.child_slot-slot.result ≡ x = c.child_slot-slot.ensures in
    let shaped = c.args.table.now.shaped in
    (search rules, record { sound = c.requires.sound; slot_in = subst (λ s. s < size) (sym e) (lead_inside size R c.args.node c.requires.based.1); slot_held = inr (0, ap R.check e ∙ c.requires.reserved); not_root = λ z. far (sym e ∙ z); owner_in = omega (arith, c.requires.node_in, shaped.blocks.active_in, shaped.blocks.fits) })

pub set_sibling-requires : goal.set_sibling-requires
set_sibling-requires g c =
    let R = cells c.args.table.now in
    let size = size_of (fields c.args.table.now) in
    let ordered = (fields c.args.table.now).ordered in
    let x : ℕ = below R c.args.node 0 in
    let T = cells_without R x in
    let n = c.requires.node in
    let far : x ≡ 0 → ⊥ = slot_far _ 0 c.requires.based.0 (omega arith) in
    let e : c.child_slot-slot.result ≡ x = c.child_slot-slot.ensures in
    let T₁ = cells c.claim.new.self in
    let claim = c.claim.ensures in
    let takes : Takes T T₁ c.child_slot-slot.result c.args.node = subst (λ s. Takes (cells_without R s) T₁ c.child_slot-slot.result c.args.node) e claim.takes in
    (search rules, (claim.sound, (subst (λ m. c.child_slot-slot.result < m) (sym claim.frame.size) (subst (λ s. s < size) (sym e) (lead_inside size R c.args.node c.requires.based.1)), inr (c.args.node, takes.at))))

pub set_child-requires : goal.set_child-requires
set_child-requires g c =
    let R = cells c.args.table.now in
    let size = size_of (fields c.args.table.now) in
    let ordered = (fields c.args.table.now).ordered in
    let x : ℕ = below R c.args.node 0 in
    let T = cells_without R x in
    let n = c.requires.node in
    let far : x ≡ 0 → ⊥ = slot_far _ 0 c.requires.based.0 (omega arith) in
    let e : c.child_slot-slot.result ≡ x = c.child_slot-slot.ensures in
    let T₁ = cells c.claim.new.self in
    let claim = c.claim.ensures in
    let takes : Takes T T₁ c.child_slot-slot.result c.args.node = subst (λ s. Takes (cells_without R s) T₁ c.child_slot-slot.result c.args.node) e claim.takes in
    let set = c.set_sibling.ensures in
    let held : Held T c.args.node = held_node T n.1.path c.args.node n.1.at in
    let off : c.args.node ≡ c.child_slot-slot.result → ⊥ = λ z. freed_free R x far (subst (Held T) (z ∙ e) held) in
    let still : Held (cells c.set_sibling.new.self) c.args.node = elim held [
      | inl z ↦ inl z
      | inr o ↦ inr (o.0, set.set.check c.args.node ∙ (takes.other c.args.node off (inr o)).check ∙ o.1)
    ] in
    (search rules, (set.sound, (subst (λ m. c.args.node < m) (sym (set.frame.size ∙ claim.frame.size)) c.requires.node_in, still)))

pub returns-clause-set : goal.returns-clause-set
returns-clause-set g c =
    let R = cells c.args.table.now in
    let size = size_of (fields c.args.table.now) in
    let ordered = (fields c.args.table.now).ordered in
    let x : ℕ = below R c.args.node 0 in
    let T = cells_without R x in
    let n = c.requires.node in
    let far : x ≡ 0 → ⊥ = slot_far _ 0 c.requires.based.0 (omega arith) in
    let e : c.child_slot-slot.result ≡ x = c.child_slot-slot.ensures in
    let T₁ = cells c.claim.new.self in
    let claim = c.claim.ensures in
    let takes : Takes T T₁ c.child_slot-slot.result c.args.node = subst (λ s. Takes (cells_without R s) T₁ c.child_slot-slot.result c.args.node) e claim.takes in
    let fits : FitsSigned w32 c.args.value = search rules in
    number_taken size T T₁ (cells c.set_sibling.new.self) (cells c.set_child.new.self) n.0 c.args.node c.args.value n.1.holds (held_node T n.1.path c.args.node n.1.at) c.requires.based (freed_free R x far)
    (subst (λ s. Takes T T₁ s c.args.node) e takes) (ap T₁.base (sym e) ∙ claim.base ∙ to_z-of_z w32 c.args.value fits)
    (subst (λ s. SetsSibling T₁ (cells c.set_sibling.new.self) s (T₁.child c.args.node)) e (subst (SetsSibling T₁ (cells c.set_sibling.new.self) c.child_slot-slot.result) c.child-next.ensures c.set_sibling.ensures.set))
    c.set_child.ensures.set

pub returns-clause-tree : goal.returns-clause-tree
returns-clause-tree g c = λ f w h at.
    let R = cells c.args.table.now in
    let size = size_of (fields c.args.table.now) in
    let x : ℕ = below R c.args.node 0 in
    let T = cells_without R x in
    subst (λ m. HoldsTree m (cells c.set_child.new.self) (edit_at w (λ _. Some c.args.value) (λ u. u) f)) (sym (c.set_child.ensures.frame.size ∙ c.set_sibling.ensures.frame.size ∙ c.claim.ensures.frame.size))
    (number_set_at size T (cells c.set_child.new.self) f w c.args.node c.args.value (λ z. omega (arith, z, c.requires.not_root)) h at (returns-clause-set g c))

pub returns-clause-root_check : goal.returns-clause-root_check
returns-clause-root_check g c =
    let R = cells c.args.table.now in
    let size = size_of (fields c.args.table.now) in
    let ordered = (fields c.args.table.now).ordered in
    let x : ℕ = below R c.args.node 0 in
    let T = cells_without R x in
    let n = c.requires.node in
    let far : x ≡ 0 → ⊥ = slot_far _ 0 c.requires.based.0 (omega arith) in
    let e : c.child_slot-slot.result ≡ x = c.child_slot-slot.ensures in
    let T₁ = cells c.claim.new.self in
    let claim = c.claim.ensures in
    let takes : Takes T T₁ c.child_slot-slot.result c.args.node = subst (λ s. Takes (cells_without R s) T₁ c.child_slot-slot.result c.args.node) e claim.takes in
    root_check_taken T T₁ (cells c.set_sibling.new.self) (cells c.set_child.new.self) c.child_slot-slot.result c.args.node _ _ (subst (λ s. Held T s → ⊥) (sym e) (freed_free R x far)) takes c.set_sibling.ensures.set c.set_child.ensures.set ∙ freed_root R x far
