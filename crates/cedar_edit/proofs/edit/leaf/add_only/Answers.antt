use Rattle.std.proofs.Common.{◌≡◌, ◌<◌, ◌∙◌, arith, None, rules, subst, sym, ap, [], ◌∷◌, ◌++◌, w32, FitsSigned}
use Rattle.std.proofs.lemmas.Int.{to_z-of_z}
use Rattle.cedar_model.specs.Edits.{add_leaf, edit_at}
use Rattle.cedar_model.specs.Table.Cells.{Held}
use Rattle.cedar_model.specs.Edit.NodeEdits.{CanAdd, IsAt, LinkedChild}
use Rattle.cedar_model.specs.Meaning.Family.{below}
use Rattle.cedar_model.specs.Table.Layouts.{reading}
use Rattle.cedar_model.specs.Meaning.StandsFor.{HoldsTree}
use Rattle.cedar_table.specs.Table.Views.{cells, fields}
use Rattle.cedar_model.specs.Table.TableFields.{size_of}
use Rattle.cedar_model.proofs.EditLemmas.SlotForLabel.{can_add_at, held_after, label_added_by, root_check_stays, slot_inside, slot_stays}
use Rattle.cedar_model.proofs.EditLemmas.LeafAtPlace.{label_added, path_of_leaf}
use Rattle.cedar_edit.proofs.LeafLemmas.{goes_alone, kept_taken, linked_alone, names_none, taken_held}
use Rattle.cedar_edit.proofs.edit.leaf.add_only.Goals as goal

can_add : (g : _) (c : goal.After-set_child g) → CanAdd (size_of (fields c.args.table.now)) (cells c.args.table.now) c.args.node c.args.label
can_add g c =
    let n = c.requires.node in
    can_add_at (size_of (fields c.args.table.now)) (cells c.args.table.now) (fields c.args.table.now).ordered n.0 c.args.node c.args.label n.1 c.requires.positive (omega (arith, c.ranges.label.fits)) (λ _. c.requires.based) c.requires.free

-- the label is the only one of its chain
linked : (g : _) (c : goal.After-set_child g) → LinkedChild (cells c.pop_e_node.new.self) (cells c.set_child.new.self) c.args.node c.args.child c.args.label
linked g c =
    let T = cells c.args.table.now in
    let size = size_of (fields c.args.table.now) in
    let n = c.requires.node in
    let k = can_add g c in
    let held = held_after size T (cells c.pop_e_node.new.self) c.args.node c.args.label c.args.child c.requires.slot k c.pop_e_node.ensures.takes in
    linked_alone T (cells c.pop_e_node.new.self) (cells c.set_child.new.self) c.args.node c.args.child c.args.label c.pop_e_node.ensures.takes k.held held.1
    (names_none size T (fields c.args.table.now).ordered n.0 c.args.node n.1 c.requires.not_root c.requires.alone) c.set_child.ensures.set

pub pop_e_node-requires : goal.pop_e_node-requires
pop_e_node-requires g c =
    let T = cells c.args.table.now in
    let size = size_of (fields c.args.table.now) in
    let shaped = c.args.table.now.shaped in
    let n = c.requires.node in
    let k : CanAdd size T c.args.node c.args.label = can_add_at size T (fields c.args.table.now).ordered n.0 c.args.node c.args.label n.1 c.requires.positive (omega (arith, c.ranges.label.fits)) (λ _. c.requires.based) c.requires.free in
    let e : c.args.child ≡ below T c.args.node c.args.label = c.requires.slot in (
      search rules,
      (
        c.requires.sound,
        (
          subst (λ s. s < size) (sym e) (slot_inside size T c.args.node c.args.label (omega (arith, c.requires.node_in)) (omega arith) k),
          (subst (λ s. Held T s → ⊥) (sym e) c.requires.free, omega (arith, c.requires.node_in, shaped.blocks.active_in, shaped.blocks.fits)),
        ),
      ),
    )

pub set_child-requires : goal.set_child-requires
set_child-requires g c =
    let T = cells c.args.table.now in
    let size = size_of (fields c.args.table.now) in
    let n = c.requires.node in
    let popped = c.pop_e_node.ensures in
    let k : CanAdd size T c.args.node c.args.label = can_add_at size T (fields c.args.table.now).ordered n.0 c.args.node c.args.label n.1 c.requires.positive (omega (arith, c.ranges.label.fits)) (λ _. c.requires.based) c.requires.free in
    let held = held_after size T (cells c.pop_e_node.new.self) c.args.node c.args.label c.args.child c.requires.slot k popped.takes in
    (search rules, (popped.sound, (subst (λ m. c.args.node < m) (sym popped.frame.size) c.requires.node_in, held.0)))

pub returns-clause-added : goal.returns-clause-added
returns-clause-added g c =
    let T = cells c.args.table.now in
    let size = size_of (fields c.args.table.now) in
    let ordered = (fields c.args.table.now).ordered in
    let n = c.requires.node in
    let popped = c.pop_e_node.ensures in
    let fits : FitsSigned w32 c.base_field.result = search rules in
    label_added_by size T (cells c.pop_e_node.new.self) (cells c.set_child.new.self) ordered n.0 c.args.node c.args.label c.args.child c.requires.slot n.1 (can_add g c) popped.takes (popped.stored ∙ ap (reading g.L.Layout.kind) (to_z-of_z w32 c.base_field.result fits) ∙ c.base_field.ensures)
    None (goes_alone T ordered c.args.node c.args.label c.requires.not_root c.requires.alone (names_none size T ordered n.0 c.args.node n.1 c.requires.not_root c.requires.alone)) (linked g c)

pub returns-clause-slot : goal.returns-clause-slot
returns-clause-slot g c =
    slot_stays (size_of (fields c.args.table.now)) (cells c.args.table.now) (cells c.pop_e_node.new.self) (cells c.set_child.new.self) c.args.node c.args.label c.args.child c.requires.slot (can_add g c) c.pop_e_node.ensures.takes None (linked g c)

pub returns-clause-tree : goal.returns-clause-tree
returns-clause-tree g c = λ f w h u at.
    subst (λ n. HoldsTree n (cells c.set_child.new.self) (edit_at w (λ v. v) (add_leaf (fields c.args.table.now).ordered c.args.label) f)) (sym (c.set_child.ensures.frame.size ∙ c.pop_e_node.ensures.frame.size))
    (label_added (size_of (fields c.args.table.now)) (cells c.args.table.now) (cells c.set_child.new.self) c.args.label (fields c.args.table.now).ordered f w c.args.node h u at (returns-clause-added g c))

pub returns-clause-leaf : goal.returns-clause-leaf
returns-clause-leaf g c = λ w at.
    let n = c.requires.node in
    subst (IsAt (cells c.set_child.new.self) (w ++ c.args.label ∷ [])) (sym (returns-clause-slot g c))
    (path_of_leaf (size_of (fields c.args.table.now)) (cells c.args.table.now) (cells c.set_child.new.self) (fields c.args.table.now).ordered n.0 c.args.node c.args.label (returns-clause-added g c) n.1.holds w at)

pub returns-clause-root_check : goal.returns-clause-root_check
returns-clause-root_check g c =
    root_check_stays (cells c.args.table.now) (cells c.pop_e_node.new.self) (cells c.set_child.new.self) c.args.node c.args.label c.args.child c.requires.slot c.requires.free c.pop_e_node.ensures.takes None (linked g c)

pub returns-clause-keeps : goal.returns-clause-keeps
returns-clause-keeps g c =
    let T = cells c.args.table.now in
    kept_taken T (cells c.pop_e_node.new.self) (cells c.set_child.new.self) c.args.child c.args.node c.pop_e_node.ensures.takes (subst (λ s. Held T s → ⊥) (sym c.requires.slot) c.requires.free) c.set_child.ensures.set.check

pub returns-clause-taken : goal.returns-clause-taken
returns-clause-taken g c = taken_held (cells c.args.table.now) (cells c.pop_e_node.new.self) (cells c.set_child.new.self) c.args.child c.args.node c.pop_e_node.ensures.takes c.set_child.ensures.set.check
