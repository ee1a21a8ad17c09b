use Rattle.std.proofs.Common.{◌≡◌, ◌<◌, ◌∙◌, arith, inr, rules, subst, sym, ap, [], ◌∷◌, ◌++◌, w32, FitsSigned, ℕ}
use Rattle.std.proofs.lemmas.Int.{to_z-of_z}
use Rattle.cedar_model.specs.Edits.{add_leaf, edit_at}
use Rattle.cedar_model.specs.declared.layout.Stored.TheVariants.{AtBase}
use Rattle.cedar_model.specs.Table.Cells.{Takes}
use Rattle.cedar_model.specs.Edit.NodeEdits.{CanAdd, IsAt}
use Rattle.cedar_model.specs.Meaning.Family.{below}
use Rattle.cedar_model.specs.Table.Layouts.{reading}
use Rattle.cedar_model.specs.Meaning.StandsFor.{HoldsTree}
use Rattle.cedar_model.specs.Relocation.Reserved.{cells_without}
use Rattle.cedar_table.specs.Table.Views.{cells, fields}
use Rattle.cedar_model.specs.Table.TableFields.{size_of}
use Rattle.cedar_model.proofs.EditLemmas.KeptSlotGiven.{chain_there, freed_free, node_apart, place_there, slot_far}
use Rattle.cedar_model.proofs.EditLemmas.SlotForLabel.{base_inside, can_add_at, can_link_by, held_after, label_added_by, root_check_stays, slot_inside, slot_stays}
use Rattle.cedar_model.proofs.EditLemmas.LeafAtPlace.{label_added, path_of_leaf}
use Rattle.cedar_model.proofs.RelocationLemmas.KeptSlot.{freed_root}
use Rattle.cedar_model.proofs.MeaningLemmas.ExclusiveOr.{pos_injective}
use Rattle.cedar_edit.proofs.edit.leaf.add_reserved.Goals as goal

pub slot_before-before-requires : goal.slot_before-before-requires
slot_before-before-requires g c =
    let R = cells c.args.table.now in
    let size = size_of (fields c.args.table.now) in
    let ordered = (fields c.args.table.now).ordered in
    let x : ℕ = below R c.args.node c.args.label in
    let T = cells_without R x in
    let n = c.requires.node in
    let small : c.args.label < 256 = omega (arith, c.ranges.label.fits) in
    let far : x ≡ 0 → ⊥ = slot_far _ c.args.label c.requires.based.0 small in
    let k : CanAdd size T c.args.node c.args.label = can_add_at size T ordered n.0 c.args.node c.args.label n.1 c.requires.positive small (λ _. c.requires.based) (freed_free R x far) in
    let e : c.child_slot-slot.result ≡ x = c.child_slot-slot.ensures in
    let off = (node_apart size R ordered n.0 c.args.node x far n.1).0 in
    (search rules, record { node_in = c.requires.node_in; based = base_inside size T c.args.node c.args.label (omega (arith, c.requires.node_in)) k; chain = chain_there size R ordered c.args.node x c.requires.not_root off c.requires.reserved n.0 n.1; absent = λ o. c.requires.not_root (pos_injective c.args.node 0 (sym o ∙ c.requires.reserved)) })

pub claim-requires : goal.claim-requires
claim-requires g c =
    let R = cells c.args.table.now in
    let size = size_of (fields c.args.table.now) in
    let ordered = (fields c.args.table.now).ordered in
    let x : ℕ = below R c.args.node c.args.label in
    let T = cells_without R x in
    let n = c.requires.node in
    let small : c.args.label < 256 = omega (arith, c.ranges.label.fits) in
    let far : x ≡ 0 → ⊥ = slot_far _ c.args.label c.requires.based.0 small in
    let k : CanAdd size T c.args.node c.args.label = can_add_at size T ordered n.0 c.args.node c.args.label n.1 c.requires.positive small (λ _. c.requires.based) (freed_free R x far) in
    let e : c.child_slot-slot.result ≡ x = c.child_slot-slot.ensures in
    let shaped = c.args.table.now.shaped in
    (search rules, record { sound = c.requires.sound; slot_in = subst (λ s. s < size) (sym e) (slot_inside size T c.args.node c.args.label (omega (arith, c.requires.node_in)) (omega arith) k); slot_held = inr (0, ap R.check e ∙ c.requires.reserved); not_root = λ z. far (sym e ∙ z); owner_in = omega (arith, c.requires.node_in, shaped.blocks.active_in, shaped.blocks.fits) })

pub link-requires : goal.link-requires
link-requires g c =
    let R = cells c.args.table.now in
    let size = size_of (fields c.args.table.now) in
    let ordered = (fields c.args.table.now).ordered in
    let x : ℕ = below R c.args.node c.args.label in
    let T = cells_without R x in
    let n = c.requires.node in
    let small : c.args.label < 256 = omega (arith, c.ranges.label.fits) in
    let far : x ≡ 0 → ⊥ = slot_far _ c.args.label c.requires.based.0 small in
    let k : CanAdd size T c.args.node c.args.label = can_add_at size T ordered n.0 c.args.node c.args.label n.1 c.requires.positive small (λ _. c.requires.based) (freed_free R x far) in
    let e : c.child_slot-slot.result ≡ x = c.child_slot-slot.ensures in
    let T₁ = cells c.claim.new.self in
    let claim = c.claim.ensures in
    let takes : Takes T T₁ c.child_slot-slot.result c.args.node = subst (λ s. Takes (cells_without R s) T₁ c.child_slot-slot.result c.args.node) e claim.takes in
    let fits : FitsSigned w32 c.base_field.result = search rules in
    let bare : T₁.stored c.child_slot-slot.result ≡ AtBase 0 = claim.stored ∙ ap (reading g.L.Layout.kind) (to_z-of_z w32 c.base_field.result fits) ∙ c.base_field.ensures in
    let before = place_there size R ordered c.args.node x c.requires.not_root (node_apart size R ordered n.0 c.args.node x far n.1).0 c.requires.reserved c.args.label c.slot_before-before.result c.slot_before-before.ensures in
    let held = held_after size T T₁ c.args.node c.args.label c.child_slot-slot.result e k takes in (
      search rules,
      (
        claim.sound,
        (
          can_link_by size T T₁ ordered n.0 c.args.node c.args.label c.child_slot-slot.result _ claim.frame.size e n.1 k takes bare c.slot_before-before.result before,
          (
            subst (λ m. c.args.node < m) (sym claim.frame.size) c.requires.node_in,
            (
              subst (λ m. c.child_slot-slot.result < m) (sym claim.frame.size) (subst (λ s. s < size) (sym e) (slot_inside size T c.args.node c.args.label (omega (arith, c.requires.node_in)) (omega arith) k)),
              (held.0, (inr (c.args.node, takes.at), held.1)),
            ),
          ),
        ),
      ),
    )

pub returns-clause-added : goal.returns-clause-added
returns-clause-added g c =
    let R = cells c.args.table.now in
    let size = size_of (fields c.args.table.now) in
    let ordered = (fields c.args.table.now).ordered in
    let x : ℕ = below R c.args.node c.args.label in
    let T = cells_without R x in
    let n = c.requires.node in
    let small : c.args.label < 256 = omega (arith, c.ranges.label.fits) in
    let far : x ≡ 0 → ⊥ = slot_far _ c.args.label c.requires.based.0 small in
    let k : CanAdd size T c.args.node c.args.label = can_add_at size T ordered n.0 c.args.node c.args.label n.1 c.requires.positive small (λ _. c.requires.based) (freed_free R x far) in
    let e : c.child_slot-slot.result ≡ x = c.child_slot-slot.ensures in
    let T₁ = cells c.claim.new.self in
    let claim = c.claim.ensures in
    let takes : Takes T T₁ c.child_slot-slot.result c.args.node = subst (λ s. Takes (cells_without R s) T₁ c.child_slot-slot.result c.args.node) e claim.takes in
    let fits : FitsSigned w32 c.base_field.result = search rules in
    let bare : T₁.stored c.child_slot-slot.result ≡ AtBase 0 = claim.stored ∙ ap (reading g.L.Layout.kind) (to_z-of_z w32 c.base_field.result fits) ∙ c.base_field.ensures in
    let before = place_there size R ordered c.args.node x c.requires.not_root (node_apart size R ordered n.0 c.args.node x far n.1).0 c.requires.reserved c.args.label c.slot_before-before.result c.slot_before-before.ensures in
    label_added_by size T T₁ (cells c.link.new.self) ordered n.0 c.args.node c.args.label c.child_slot-slot.result e n.1 k takes bare c.slot_before-before.result before c.link.ensures.linked

pub returns-clause-slot : goal.returns-clause-slot
returns-clause-slot g c =
    let R = cells c.args.table.now in
    let size = size_of (fields c.args.table.now) in
    let ordered = (fields c.args.table.now).ordered in
    let x : ℕ = below R c.args.node c.args.label in
    let T = cells_without R x in
    let n = c.requires.node in
    let small : c.args.label < 256 = omega (arith, c.ranges.label.fits) in
    let far : x ≡ 0 → ⊥ = slot_far _ c.args.label c.requires.based.0 small in
    let k : CanAdd size T c.args.node c.args.label = can_add_at size T ordered n.0 c.args.node c.args.label n.1 c.requires.positive small (λ _. c.requires.based) (freed_free R x far) in
    let e : c.child_slot-slot.result ≡ x = c.child_slot-slot.ensures in
    let T₁ = cells c.claim.new.self in
    let claim = c.claim.ensures in
    let takes : Takes T T₁ c.child_slot-slot.result c.args.node = subst (λ s. Takes (cells_without R s) T₁ c.child_slot-slot.result c.args.node) e claim.takes in
    let fits : FitsSigned w32 c.base_field.result = search rules in
    let bare : T₁.stored c.child_slot-slot.result ≡ AtBase 0 = claim.stored ∙ ap (reading g.L.Layout.kind) (to_z-of_z w32 c.base_field.result fits) ∙ c.base_field.ensures in
    let before = place_there size R ordered c.args.node x c.requires.not_root (node_apart size R ordered n.0 c.args.node x far n.1).0 c.requires.reserved c.args.label c.slot_before-before.result c.slot_before-before.ensures in
    slot_stays size T T₁ (cells c.link.new.self) c.args.node c.args.label c.child_slot-slot.result e k takes c.slot_before-before.result c.link.ensures.linked

pub returns-clause-tree : goal.returns-clause-tree
returns-clause-tree g c = λ f w h u at.
    subst (λ n. HoldsTree n (cells c.link.new.self) (edit_at w (λ v. v) (add_leaf (fields c.args.table.now).ordered c.args.label) f)) (sym (c.link.ensures.frame.size ∙ c.claim.ensures.frame.size))
    (label_added (size_of (fields c.args.table.now)) (cells_without (cells c.args.table.now) (below (cells c.args.table.now) c.args.node c.args.label)) (cells c.link.new.self) c.args.label (fields c.args.table.now).ordered f w c.args.node h u at (returns-clause-added g c))

pub returns-clause-leaf : goal.returns-clause-leaf
returns-clause-leaf g c = λ w at.
    let n = c.requires.node in
    subst (IsAt (cells c.link.new.self) (w ++ c.args.label ∷ [])) (sym (returns-clause-slot g c))
    (path_of_leaf (size_of (fields c.args.table.now)) (cells_without (cells c.args.table.now) (below (cells c.args.table.now) c.args.node c.args.label)) (cells c.link.new.self) (fields c.args.table.now).ordered n.0 c.args.node c.args.label (returns-clause-added g c) n.1.holds w at)

pub returns-clause-root_check : goal.returns-clause-root_check
returns-clause-root_check g c =
    let R = cells c.args.table.now in
    let size = size_of (fields c.args.table.now) in
    let ordered = (fields c.args.table.now).ordered in
    let x : ℕ = below R c.args.node c.args.label in
    let T = cells_without R x in
    let n = c.requires.node in
    let small : c.args.label < 256 = omega (arith, c.ranges.label.fits) in
    let far : x ≡ 0 → ⊥ = slot_far _ c.args.label c.requires.based.0 small in
    let k : CanAdd size T c.args.node c.args.label = can_add_at size T ordered n.0 c.args.node c.args.label n.1 c.requires.positive small (λ _. c.requires.based) (freed_free R x far) in
    let e : c.child_slot-slot.result ≡ x = c.child_slot-slot.ensures in
    let T₁ = cells c.claim.new.self in
    let claim = c.claim.ensures in
    let takes : Takes T T₁ c.child_slot-slot.result c.args.node = subst (λ s. Takes (cells_without R s) T₁ c.child_slot-slot.result c.args.node) e claim.takes in
    let fits : FitsSigned w32 c.base_field.result = search rules in
    let bare : T₁.stored c.child_slot-slot.result ≡ AtBase 0 = claim.stored ∙ ap (reading g.L.Layout.kind) (to_z-of_z w32 c.base_field.result fits) ∙ c.base_field.ensures in
    let before = place_there size R ordered c.args.node x c.requires.not_root (node_apart size R ordered n.0 c.args.node x far n.1).0 c.requires.reserved c.args.label c.slot_before-before.result c.slot_before-before.ensures in
    root_check_stays T T₁ (cells c.link.new.self) c.args.node c.args.label c.child_slot-slot.result e (freed_free R x far) takes c.slot_before-before.result c.link.ensures.linked ∙ freed_root R x far
