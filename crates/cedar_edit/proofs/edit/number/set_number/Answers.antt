use Rattle.std.proofs.Common.{◌≡◌, ◌<◌, ◌≤ℤ◌, ◌∙◌, arith, inl, inr, rules, subst, sym, ap, pos, Some, to_z, of_z, w32, FitsSigned}
use Rattle.std.proofs.lemmas.Int.{ints, to_z_pos, to_z-of_z}
use Rattle.cedar_model.specs.Edits.{edit_at}
use Rattle.cedar_model.specs.Table.Cells.{Held, NodeWritten, Takes}
use Rattle.cedar_model.specs.Edit.NodeEdits.{SetsSibling}
use Rattle.cedar_model.specs.Meaning.Family.{below}
use Rattle.cedar_model.specs.Table.Layouts.{reading}
use Rattle.cedar_model.specs.Meaning.StandsFor.{HoldsTree}
use Rattle.cedar_table.specs.Table.Views.{cells, fields}
use Rattle.cedar_model.specs.Table.TableFields.{size_of}
use Rattle.cedar_model.proofs.EditLemmas.AtPath.{held_node, not_own_owner, number_set_at}
use Rattle.cedar_model.proofs.EditLemmas.SlotForLabel.{chain_of_node, lead_inside}
use Rattle.cedar_model.proofs.EditLemmas.NumberWritten.{number_taken, number_written, root_check_taken, root_check_written}
use Rattle.cedar_model.proofs.MeaningLemmas.NodeAtPath.{at_node}
use Rattle.cedar_model.proofs.MeaningLemmas.SearchStep.{never_nothing}
use Rattle.cedar_edit.proofs.edit.number.set_number.Goals as goal

pub slot_below-slot-requires : goal.slot_below-slot-requires
slot_below-slot-requires g c =
    let T = fields c.args.table.now in
    let n = c.requires.node.1 in
    let st = at_node (size_of T) (cells c.args.table.now) c.requires.node.0 n.path c.args.node n.holds n.at in
    (search rules, (c.requires.node_in, never_nothing (size_of T) (cells c.args.table.now) c.args.node _ st))

pub is_owned_by-requires : goal.is_owned_by-requires
is_owned_by-requires g c =
    let size = size_of (fields c.args.table.now) in
    (search rules, (subst (λ s. s < size) (sym c.slot_below-slot.ensures) (lead_inside size (cells c.args.table.now) c.args.node c.requires.based.1), c.requires.node_in))

pub write_node-requires : goal.write_node-requires
write_node-requires g c =
    let size = size_of (fields c.args.table.now) in
    let shaped = c.args.table.now.shaped in
    let owner : to_z w32 c.args.node ≡ pos c.args.node = to_z_pos w32 c.args.node (omega (arith, c.requires.node_in, shaped.blocks.active_in, shaped.blocks.fits)) in
    let mine : (cells c.args.table.now).check c.slot_below-slot.result ≡ pos c.args.node = c.is_owned_by.ensures.0 c.if-is_owned_by.true in
    (search rules, (c.requires.sound, (subst (λ s. s < size) (sym c.slot_below-slot.ensures) (lead_inside size (cells c.args.table.now) c.args.node c.requires.based.1), (inr (c.args.node, mine), inr (subst (λ z. pos 0 ≤ℤ z) (sym owner) (omega (arith, ints)))))))

pub returns-then-is_owned_by-clause-set : goal.returns-then-is_owned_by-clause-set
returns-then-is_owned_by-clause-set g c =
    let T = cells c.args.table.now in
    let size = size_of (fields c.args.table.now) in
    let shaped = c.args.table.now.shaped in
    let n = c.requires.node in
    let e : c.slot_below-slot.result ≡ below T c.args.node 0 = c.slot_below-slot.ensures in
    let owner : to_z w32 c.args.node ≡ pos c.args.node = to_z_pos w32 c.args.node (omega (arith, c.requires.node_in, shaped.blocks.active_in, shaped.blocks.fits)) in
    let fits : FitsSigned w32 c.args.value = search rules in
    let same : to_z w32 (of_z w32 c.args.value) ≡ c.args.value = to_z-of_z w32 c.args.value fits in
    number_written (reading g.L.Layout.kind) size T (cells c.write_node.new.self) (fields c.args.table.now).ordered n.0 c.args.node c.args.value _ n.1.holds (chain_of_node size T (fields c.args.table.now).ordered n.0 c.args.node n.1)
    (ap T.check (sym e) ∙ c.is_owned_by.ensures.0 c.if-is_owned_by.true) (not_own_owner T n.1.path c.args.node n.1.holds.root n.1.at) c.requires.based
    (subst (λ z. NodeWritten (reading g.L.Layout.kind) T (cells c.write_node.new.self) (below T c.args.node 0) z (to_z w32 c.args.node)) same
    (subst (λ s. NodeWritten (reading g.L.Layout.kind) T (cells c.write_node.new.self) s (to_z w32 (of_z w32 c.args.value)) (to_z w32 c.args.node)) e c.write_node.ensures.written)) owner

pub returns-then-is_owned_by-clause-tree : goal.returns-then-is_owned_by-clause-tree
returns-then-is_owned_by-clause-tree g c = λ f w h at.
    subst (λ m. HoldsTree m (cells c.write_node.new.self) (edit_at w (λ _. Some c.args.value) (λ u. u) f)) (sym c.write_node.ensures.frame.size)
    (number_set_at (size_of (fields c.args.table.now)) (cells c.args.table.now) (cells c.write_node.new.self) f w c.args.node c.args.value (λ z. omega (arith, z, c.requires.not_root)) h at (returns-then-is_owned_by-clause-set g c))

pub pop_e_node-requires : goal.pop_e_node-requires
pop_e_node-requires g c =
    let T = cells c.args.table.now in
    let size = size_of (fields c.args.table.now) in
    let shaped = c.args.table.now.shaped in
    let e : c.slot_below-slot.result ≡ below T c.args.node 0 = c.slot_below-slot.ensures in
    let free : Held T (below T c.args.node 0) → ⊥ = elim c.requires.place [
      | inl o ↦ λ _. let yes = c.is_owned_by.ensures.1 (ap T.check e ∙ o) in let no = c.if-is_owned_by.false in cc
      | inr n ↦ n
    ] in
    (search rules, (c.requires.sound, (subst (λ s. s < size) (sym e) (lead_inside size T c.args.node c.requires.based.1), (subst (λ s. Held T s → ⊥) (sym e) free, omega (arith, c.requires.node_in, shaped.blocks.active_in, shaped.blocks.fits)))))

pub set_sibling-requires : goal.set_sibling-requires
set_sibling-requires g c =
    let T = cells c.args.table.now in
    let size = size_of (fields c.args.table.now) in
    let popped = c.pop_e_node.ensures in
    (search rules, (popped.sound, (subst (λ m. c.slot_below-slot.result < m) (sym popped.frame.size) (subst (λ s. s < size) (sym c.slot_below-slot.ensures) (lead_inside size T c.args.node c.requires.based.1)), inr (c.args.node, popped.takes.at))))

pub set_child-requires : goal.set_child-requires
set_child-requires g c =
    let T = cells c.args.table.now in
    let T₁ = cells c.pop_e_node.new.self in
    let n = c.requires.node in
    let popped = c.pop_e_node.ensures in
    let set = c.set_sibling.ensures in
    let held : Held T c.args.node = held_node T n.1.path c.args.node n.1.at in
    let off : c.args.node ≡ c.slot_below-slot.result → ⊥ = λ z. elim c.requires.place [
      | inl o ↦ let yes = c.is_owned_by.ensures.1 (ap T.check c.slot_below-slot.ensures ∙ o) in let no = c.if-is_owned_by.false in cc
      | inr free ↦ free (subst (Held T) (z ∙ c.slot_below-slot.ensures) held)
    ] in
    let still : Held (cells c.set_sibling.new.self) c.args.node = elim held [
      | inl z ↦ inl z
      | inr o ↦ inr (o.0, set.set.check c.args.node ∙ (popped.takes.other c.args.node off (inr o)).check ∙ o.1)
    ] in
    (search rules, (set.sound, (subst (λ m. c.args.node < m) (sym (set.frame.size ∙ popped.frame.size)) c.requires.node_in, still)))

pub returns-clause-set : goal.returns-clause-set
returns-clause-set g c =
    let T = cells c.args.table.now in
    let T₁ = cells c.pop_e_node.new.self in
    let n = c.requires.node in
    let popped = c.pop_e_node.ensures in
    let e : c.slot_below-slot.result ≡ below T c.args.node 0 = c.slot_below-slot.ensures in
    let fits : FitsSigned w32 c.args.value = search rules in
    let free : Held T (below T c.args.node 0) → ⊥ = elim c.requires.place [
      | inl o ↦ λ _. let yes = c.is_owned_by.ensures.1 (ap T.check e ∙ o) in let no = c.if-is_owned_by.false in cc
      | inr n ↦ n
    ] in
    number_taken (size_of (fields c.args.table.now)) T T₁ (cells c.set_sibling.new.self) (cells c.set_child.new.self) n.0 c.args.node c.args.value n.1.holds (held_node T n.1.path c.args.node n.1.at) c.requires.based free
    (subst (λ s. Takes T T₁ s c.args.node) e popped.takes) (ap T₁.base (sym e) ∙ popped.base ∙ to_z-of_z w32 c.args.value fits)
    (subst (λ s. SetsSibling T₁ (cells c.set_sibling.new.self) s (T₁.child c.args.node)) e (subst (SetsSibling T₁ (cells c.set_sibling.new.self) c.slot_below-slot.result) c.child-first.ensures c.set_sibling.ensures.set))
    c.set_child.ensures.set

pub returns-clause-tree : goal.returns-clause-tree
returns-clause-tree g c = λ f w h at.
    subst (λ m. HoldsTree m (cells c.set_child.new.self) (edit_at w (λ _. Some c.args.value) (λ u. u) f)) (sym (c.set_child.ensures.frame.size ∙ c.set_sibling.ensures.frame.size ∙ c.pop_e_node.ensures.frame.size))
    (number_set_at (size_of (fields c.args.table.now)) (cells c.args.table.now) (cells c.set_child.new.self) f w c.args.node c.args.value (λ z. omega (arith, z, c.requires.not_root)) h at (returns-clause-set g c))

pub returns-then-is_owned_by-clause-root_check : goal.returns-then-is_owned_by-clause-root_check
returns-then-is_owned_by-clause-root_check g c =
    root_check_written (reading g.L.Layout.kind) (cells c.args.table.now) (cells c.write_node.new.self) c.slot_below-slot.result c.args.node _ _ (c.is_owned_by.ensures.0 c.if-is_owned_by.true) c.requires.node.1.holds.root c.write_node.ensures.written

pub returns-clause-root_check : goal.returns-clause-root_check
returns-clause-root_check g c =
    let T = cells c.args.table.now in
    let e : c.slot_below-slot.result ≡ below T c.args.node 0 = c.slot_below-slot.ensures in
    let free : Held T c.slot_below-slot.result → ⊥ = elim c.requires.place [
      | inl o ↦ λ _. let yes = c.is_owned_by.ensures.1 (ap T.check e ∙ o) in let no = c.if-is_owned_by.false in cc
      | inr n ↦ λ h. n (subst (Held T) e h)
    ] in
    root_check_taken T (cells c.pop_e_node.new.self) (cells c.set_sibling.new.self) (cells c.set_child.new.self) c.slot_below-slot.result c.args.node _ _ free c.pop_e_node.ensures.takes c.set_sibling.ensures.set c.set_child.ensures.set
