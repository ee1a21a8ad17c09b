use Rattle.std.proofs.Common.{◌≡◌, ◌<◌, ◌∙◌, arith, rules, subst, sym, ap, [], ◌∷◌, ◌++◌, w32, FitsSigned, true}
use Rattle.std.specs.Prelude.{bit_xor}
use Rattle.std.proofs.lemmas.Int.{to_z-of_z}
use Rattle.cedar_model.specs.Edits.{add_leaf, edit_at}
use Rattle.cedar_model.specs.declared.layout.Stored.TheVariants.{AtBase}
use Rattle.cedar_model.specs.Table.Cells.{Held}
use Rattle.cedar_model.specs.Edit.NodeEdits.{AddsLabel, CanAdd, IsAt}
use Rattle.cedar_model.specs.Meaning.Family.{below}
use Rattle.cedar_model.specs.Table.Layouts.{reading}
use Rattle.cedar_model.specs.Meaning.StandsFor.{HoldsTree}
use Rattle.cedar_table.specs.Table.Views.{cells, fields}
use Rattle.cedar_model.specs.Table.TableFields.{size_of}
use Rattle.cedar_bulk.proofs.BulkLemmas.LastLabel.{behind_held, held_before, leaf_bare, leaf_last, linked_check, still_held, still_last, stored_stays}
use Rattle.cedar_model.proofs.EditLemmas.AtPath.{held_node}
use Rattle.cedar_model.proofs.EditLemmas.SlotForLabel.{can_add_at, can_link_by, held_after, label_added_by, root_check_stays, slot_inside, slot_stays}
use Rattle.cedar_model.proofs.EditLemmas.LeafAtPlace.{label_added, path_of_leaf, paths_stay}
use Rattle.cedar_bulk.proofs.append.append_label.Goals as goal

pub pop_e_node-requires : goal.pop_e_node-requires
pop_e_node-requires g c =
    let T = cells c.args.table.now in
    let size = size_of (fields c.args.table.now) in
    let shaped = c.args.table.now.shaped in
    let n = c.requires.node in
    let k : CanAdd size T c.args.node c.args.label = can_add_at size T true n.0 c.args.node c.args.label n.1 c.requires.positive (omega (arith, c.ranges.label.fits)) c.requires.based c.requires.free in
    let e : c.slot_at-slot.result ≡ below T c.args.node c.args.label = c.slot_at-slot.ensures ∙ ap (λ b. bit_xor b c.args.label) c.requires.base_is in (
      search rules,
      (
        c.requires.sound,
        (
          subst (λ s. s < size) (sym e) (slot_inside size T c.args.node c.args.label (omega (arith, c.requires.node_in)) (omega arith) k),
          (subst (λ s. Held T s → ⊥) (sym e) c.requires.free, omega (arith, c.requires.node_in, shaped.blocks.active_in, shaped.blocks.fits)),
        ),
      ),
    )

pub link_last-requires : goal.link_last-requires
link_last-requires g c =
    let T = cells c.args.table.now in
    let T₁ = cells c.pop_e_node.new.self in
    let size = size_of (fields c.args.table.now) in
    let n = c.requires.node in
    let popped = c.pop_e_node.ensures in
    let k : CanAdd size T c.args.node c.args.label = can_add_at size T true n.0 c.args.node c.args.label n.1 c.requires.positive (omega (arith, c.ranges.label.fits)) c.requires.based c.requires.free in
    let e : c.slot_at-slot.result ≡ below T c.args.node c.args.label = c.slot_at-slot.ensures ∙ ap (λ b. bit_xor b c.args.label) c.requires.base_is in
    let fits : FitsSigned w32 c.base_field.result = search rules in
    let bare : T₁.stored c.slot_at-slot.result ≡ AtBase 0 = popped.stored ∙ ap (reading g.L.Layout.kind) (to_z-of_z w32 c.base_field.result fits) ∙ c.base_field.ensures in
    let held = held_after size T T₁ c.args.node c.args.label c.slot_at-slot.result e k popped.takes in
    let free : Held T c.slot_at-slot.result → ⊥ = subst (λ s. Held T s → ⊥) (sym e) c.requires.free in (
      search rules,
      (
        popped.sound,
        (
          can_link_by size T T₁ true n.0 c.args.node c.args.label c.slot_at-slot.result _ popped.frame.size e n.1 k popped.takes bare c.args.before c.requires.ends.goes,
          (
            subst (λ m. c.args.node < m) (sym popped.frame.size) c.requires.node_in,
            (
              held.0,
              (
                still_last T T₁ c.args.node c.slot_at-slot.result free popped.takes c.args.before (held_node T n.1.path c.args.node n.1.at) (behind_held size T c.args.node c.args.label c.args.before c.requires.ends.goes) c.requires.ends.last,
                popped.takes.sibling,
              ),
            ),
          ),
        ),
      ),
    )

added : (g : _) (c : goal.After-link_last g) → AddsLabel (size_of (fields c.args.table.now)) true (cells c.args.table.now) (cells c.link_last.new.table) c.args.node c.args.label
added g c =
    let T = cells c.args.table.now in
    let size = size_of (fields c.args.table.now) in
    let n = c.requires.node in
    let popped = c.pop_e_node.ensures in
    let k : CanAdd size T c.args.node c.args.label = can_add_at size T true n.0 c.args.node c.args.label n.1 c.requires.positive (omega (arith, c.ranges.label.fits)) c.requires.based c.requires.free in
    let fits : FitsSigned w32 c.base_field.result = search rules in
    label_added_by size T (cells c.pop_e_node.new.self) (cells c.link_last.new.table) true n.0 c.args.node c.args.label c.slot_at-slot.result (c.slot_at-slot.ensures ∙ ap (λ b. bit_xor b c.args.label) c.requires.base_is) n.1 k popped.takes (popped.stored ∙ ap (reading g.L.Layout.kind) (to_z-of_z w32 c.base_field.result fits) ∙ c.base_field.ensures)
    c.args.before c.requires.ends.goes c.link_last.ensures.linked

free : (g : _) (c : goal.After-link_last g) → Held (cells c.args.table.now) c.slot_at-slot.result → ⊥
free g c = subst (λ s. Held (cells c.args.table.now) s → ⊥) (sym (c.slot_at-slot.ensures ∙ ap (λ b. bit_xor b c.args.label) c.requires.base_is)) c.requires.free

pub returns-clause-tree : goal.returns-clause-tree
returns-clause-tree g c = λ f w h u at.
    subst (λ n. HoldsTree n (cells c.link_last.new.table) (edit_at w (λ v. v) (add_leaf true c.args.label) f)) (sym (c.link_last.ensures.frame.size ∙ c.pop_e_node.ensures.frame.size))
    (label_added (size_of (fields c.args.table.now)) (cells c.args.table.now) (cells c.link_last.new.table) c.args.label true f w c.args.node h (λ _. u) at (added g c))

pub returns-clause-leaf : goal.returns-clause-leaf
returns-clause-leaf g c = λ w at.
    let n = c.requires.node in
    let size = size_of (fields c.args.table.now) in
    let T = cells c.args.table.now in
    let k : CanAdd size T c.args.node c.args.label = can_add_at size T true n.0 c.args.node c.args.label n.1 c.requires.positive (omega (arith, c.ranges.label.fits)) c.requires.based c.requires.free in
    let slot = slot_stays size T (cells c.pop_e_node.new.self) (cells c.link_last.new.table) c.args.node c.args.label c.slot_at-slot.result (c.slot_at-slot.ensures ∙ ap (λ b. bit_xor b c.args.label) c.requires.base_is) k c.pop_e_node.ensures.takes c.args.before c.link_last.ensures.linked in
    subst (IsAt (cells c.link_last.new.table) (w ++ c.args.label ∷ [])) (sym slot)
    (path_of_leaf size T (cells c.link_last.new.table) true n.0 c.args.node c.args.label (added g c) n.1.holds w at)

pub returns-clause-paths : goal.returns-clause-paths
returns-clause-paths g c = λ v s at.
    let n = c.requires.node in
    paths_stay (size_of (fields c.args.table.now)) (cells c.args.table.now) (cells c.link_last.new.table) true n.0 c.args.node c.args.label (added g c) n.1.holds n.1.path n.1.at v s at

pub returns-clause-stays : goal.returns-clause-stays
returns-clause-stays g c =
    stored_stays (cells c.args.table.now) (cells c.pop_e_node.new.self) (cells c.link_last.new.table) c.args.node c.args.label c.slot_at-slot.result (free g c) c.pop_e_node.ensures.takes c.args.before c.link_last.ensures.linked

pub returns-clause-keeps : goal.returns-clause-keeps
returns-clause-keeps g c =
    still_held (cells c.args.table.now) (cells c.pop_e_node.new.self) (cells c.link_last.new.table) c.args.node c.args.label c.slot_at-slot.result (free g c) c.pop_e_node.ensures.takes c.args.before c.link_last.ensures.linked

pub returns-clause-held : goal.returns-clause-held
returns-clause-held g c =
    held_before (cells c.args.table.now) (cells c.pop_e_node.new.self) (cells c.link_last.new.table) c.args.node c.args.label c.slot_at-slot.result (free g c) c.pop_e_node.ensures.takes c.args.before c.link_last.ensures.linked

pub returns-clause-bare : goal.returns-clause-bare
returns-clause-bare g c =
    let fits : FitsSigned w32 c.base_field.result = search rules in
    leaf_bare (cells c.args.table.now) (cells c.pop_e_node.new.self) (cells c.link_last.new.table) c.args.node c.args.label c.slot_at-slot.result (free g c) c.pop_e_node.ensures.takes c.args.before c.link_last.ensures.linked
    (c.pop_e_node.ensures.stored ∙ ap (reading g.L.Layout.kind) (to_z-of_z w32 c.base_field.result fits) ∙ c.base_field.ensures)

pub returns-clause-owner : goal.returns-clause-owner
returns-clause-owner g c =
    linked_check (cells c.args.table.now) (cells c.pop_e_node.new.self) (cells c.link_last.new.table) c.args.node c.args.label c.slot_at-slot.result (free g c) c.pop_e_node.ensures.takes c.args.before c.link_last.ensures.linked c.slot_at-slot.result
    ∙ c.pop_e_node.ensures.takes.at

pub returns-clause-last : goal.returns-clause-last
returns-clause-last g c =
    let n = c.requires.node in
    leaf_last (cells c.args.table.now) (cells c.pop_e_node.new.self) (cells c.link_last.new.table) c.args.node c.args.label c.slot_at-slot.result (free g c) c.pop_e_node.ensures.takes c.args.before c.link_last.ensures.linked
    (held_node (cells c.args.table.now) n.1.path c.args.node n.1.at) (behind_held (size_of (fields c.args.table.now)) (cells c.args.table.now) c.args.node c.args.label c.args.before c.requires.ends.goes) c.requires.ends.last

pub returns-clause-root_check : goal.returns-clause-root_check
returns-clause-root_check g c =
    root_check_stays (cells c.args.table.now) (cells c.pop_e_node.new.self) (cells c.link_last.new.table) c.args.node c.args.label c.slot_at-slot.result (c.slot_at-slot.ensures ∙ ap (λ b. bit_xor b c.args.label) c.requires.base_is) c.requires.free c.pop_e_node.ensures.takes c.args.before c.link_last.ensures.linked
