use Rattle.std.proofs.Common.{◌≡◌, ◌<◌, ◌∙◌, arith, rules, subst, sym, ap, inl, refl, Some, w32, FitsSigned}
use Rattle.std.proofs.lemmas.Int.{to_z-of_z}
use Rattle.cedar_model.specs.Edits.{edit_at}
use Rattle.cedar_model.specs.Table.Cells.{Held, Takes}
use Rattle.cedar_model.specs.Meaning.Family.{below}
use Rattle.cedar_model.specs.Meaning.StandsFor.{HoldsTree}
use Rattle.cedar_table.specs.Table.Views.{cells, fields}
use Rattle.cedar_model.specs.Table.TableFields.{size_of}
use Rattle.cedar_model.proofs.EditLemmas.AtPath.{held_node, number_set_at}
use Rattle.cedar_model.proofs.EditLemmas.SlotForLabel.{lead_inside}
use Rattle.cedar_model.proofs.EditLemmas.NumberWritten.{number_taken}
use Rattle.cedar_edit.proofs.LeafLemmas.{kept_taken, names_none, same_child, same_sibling, taken_held}
use Rattle.cedar_edit.proofs.edit.number.set_only.Goals as goal

pub pop_e_node-requires : goal.pop_e_node-requires
pop_e_node-requires g c =
    let T = cells c.args.table.now in
    let size = size_of (fields c.args.table.now) in
    let shaped = c.args.table.now.shaped in
    let e : c.args.slot ≡ below T c.args.node 0 = c.requires.slot in
    (search rules, (c.requires.sound, (subst (λ s. s < size) (sym e) (lead_inside size T c.args.node c.requires.based.1), (subst (λ s. Held T s → ⊥) (sym e) c.requires.free, omega (arith, c.requires.node_in, shaped.blocks.active_in, shaped.blocks.fits)))))

-- the node names no label, and is no other slot than before
names : (g : _) (c : goal.After-pop_e_node g) → (cells c.pop_e_node.new.self).child c.args.node ≡ 0
names g c =
    let T = cells c.args.table.now in
    let n = c.requires.node in
    let held : Held T c.args.node = held_node T n.1.path c.args.node n.1.at in
    let apart : c.args.node ≡ c.args.slot → ⊥ = λ z. c.requires.free (subst (Held T) (z ∙ c.requires.slot) held) in
    (c.pop_e_node.ensures.takes.other c.args.node apart held).child ∙ names_none (size_of (fields c.args.table.now)) T (fields c.args.table.now).ordered n.0 c.args.node n.1 (λ z. omega (arith, z, c.requires.not_root)) c.requires.alone

pub returns-clause-set : goal.returns-clause-set
returns-clause-set g c =
    let T = cells c.args.table.now in
    let T₁ = cells c.pop_e_node.new.self in
    let n = c.requires.node in
    let popped = c.pop_e_node.ensures in
    let e : c.args.slot ≡ below T c.args.node 0 = c.requires.slot in
    let fits : FitsSigned w32 c.args.value = search rules in
    number_taken (size_of (fields c.args.table.now)) T T₁ T₁ T₁ n.0 c.args.node c.args.value n.1.holds (held_node T n.1.path c.args.node n.1.at) c.requires.based c.requires.free
    (subst (λ s. Takes T T₁ s c.args.node) e popped.takes) (ap T₁.base (sym e) ∙ popped.base ∙ to_z-of_z w32 c.args.value fits)
    (same_sibling T₁ (below T c.args.node 0) (T₁.child c.args.node) (ap T₁.sibling (sym e) ∙ popped.takes.sibling ∙ sym (names g c)))
    (same_child T₁ c.args.node 0 (names g c))

pub returns-clause-tree : goal.returns-clause-tree
returns-clause-tree g c = λ f w h at.
    subst (λ m. HoldsTree m (cells c.pop_e_node.new.self) (edit_at w (λ _. Some c.args.value) (λ u. u) f)) (sym c.pop_e_node.ensures.frame.size)
    (number_set_at (size_of (fields c.args.table.now)) (cells c.args.table.now) (cells c.pop_e_node.new.self) f w c.args.node c.args.value (λ z. omega (arith, z, c.requires.not_root)) h at (returns-clause-set g c))

pub returns-clause-root_check : goal.returns-clause-root_check
returns-clause-root_check g c =
    let T = cells c.args.table.now in
    (c.pop_e_node.ensures.takes.other 0 (λ z. c.requires.free (subst (Held T) (z ∙ c.requires.slot) (inl refl))) (inl refl)).check

pub returns-clause-keeps : goal.returns-clause-keeps
returns-clause-keeps g c =
    let T = cells c.args.table.now in
    let T₁ = cells c.pop_e_node.new.self in
    kept_taken T T₁ T₁ c.args.slot c.args.node c.pop_e_node.ensures.takes (subst (λ s. Held T s → ⊥) (sym c.requires.slot) c.requires.free) (λ x. refl)

pub returns-clause-taken : goal.returns-clause-taken
returns-clause-taken g c =
    let T₁ = cells c.pop_e_node.new.self in
    taken_held (cells c.args.table.now) T₁ T₁ c.args.slot c.args.node c.pop_e_node.ensures.takes (λ x. refl)
