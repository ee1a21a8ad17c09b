use Rattle.std.proofs.Common.{◌≡◌, ◌<◌, ◌∙◌, arith, inr, rules, subst, sym, ap, [], ◌∷◌, ◌++◌, w32, FitsSigned}
use Rattle.std.proofs.lemmas.Int.{to_z-of_z}
use Rattle.cedar_model.specs.Edits.{add_leaf, edit_at}
use Rattle.cedar_model.specs.declared.layout.Stored.TheVariants.{AtBase}
use Rattle.cedar_model.specs.Table.Cells.{Held}
use Rattle.cedar_model.specs.Edit.NodeEdits.{CanAdd, IsAt}
use Rattle.cedar_model.specs.Meaning.Family.{below}
use Rattle.cedar_model.specs.Table.Layouts.{reading}
use Rattle.cedar_model.specs.Meaning.StandsFor.{HoldsTree}
use Rattle.cedar_table.specs.Table.Views.{cells, fields}
use Rattle.cedar_model.specs.Table.TableFields.{size_of}
use Rattle.cedar_model.proofs.EditLemmas.SlotForLabel.{base_inside, can_add_at, can_link_by, chain_of_node, held_after, label_added_by, root_check_stays, slot_inside, slot_stays}
use Rattle.cedar_model.proofs.EditLemmas.LeafAtPlace.{label_added, path_of_leaf, paths_stay}
use Rattle.cedar_model.proofs.MeaningLemmas.NodeAtPath.{at_node}
use Rattle.cedar_model.proofs.MeaningLemmas.SearchStep.{never_nothing}
use Rattle.cedar_edit.proofs.edit.leaf.add_label.Goals as goal

pub slot_below-slot-requires : goal.slot_below-slot-requires
slot_below-slot-requires g c =
    let T = fields c.args.table.now in
    let n = c.requires.node.1 in
    let st = at_node (size_of T) (cells c.args.table.now) c.requires.node.0 n.path c.args.node n.holds n.at in
    (search rules, (c.requires.node_in, never_nothing (size_of T) (cells c.args.table.now) c.args.node _ st))

pub slot_before-before-requires : goal.slot_before-before-requires
slot_before-before-requires g c =
    let T = cells c.args.table.now in
    let size = size_of (fields c.args.table.now) in
    let ordered = (fields c.args.table.now).ordered in
    let n = c.requires.node in
    let k : CanAdd size T c.args.node c.args.label = can_add_at size T ordered n.0 c.args.node c.args.label n.1 c.requires.positive (omega (arith, c.ranges.label.fits)) c.requires.based c.requires.free in (
      search rules,
      record {
        node_in = c.requires.node_in;
        based = base_inside size T c.args.node c.args.label (omega (arith, c.requires.node_in)) k;
        chain = chain_of_node size T ordered n.0 c.args.node n.1;
        absent = λ o. c.requires.free (inr (c.args.node, o));
      },
    )

pub pop_e_node-requires : goal.pop_e_node-requires
pop_e_node-requires g c =
    let T = cells c.args.table.now in
    let size = size_of (fields c.args.table.now) in
    let shaped = c.args.table.now.shaped in
    let n = c.requires.node in
    let k : CanAdd size T c.args.node c.args.label = can_add_at size T (fields c.args.table.now).ordered n.0 c.args.node c.args.label n.1 c.requires.positive (omega (arith, c.ranges.label.fits)) c.requires.based c.requires.free in
    let e : c.slot_below-slot.result ≡ below T c.args.node c.args.label = c.slot_below-slot.ensures in (
      search rules,
      (
        c.requires.sound,
        (
          subst (λ s. s < size) (sym e) (slot_inside size T c.args.node c.args.label (omega (arith, c.requires.node_in)) (omega arith) k),
          (subst (λ s. Held T s → ⊥) (sym e) c.requires.free, omega (arith, c.requires.node_in, shaped.blocks.active_in, shaped.blocks.fits)),
        ),
      ),
    )

pub link-requires : goal.link-requires
link-requires g c =
    let T = cells c.args.table.now in
    let T₁ = cells c.pop_e_node.new.self in
    let size = size_of (fields c.args.table.now) in
    let ordered = (fields c.args.table.now).ordered in
    let n = c.requires.node in
    let popped = c.pop_e_node.ensures in
    let k : CanAdd size T c.args.node c.args.label = can_add_at size T ordered n.0 c.args.node c.args.label n.1 c.requires.positive (omega (arith, c.ranges.label.fits)) c.requires.based c.requires.free in
    let e : c.slot_below-slot.result ≡ below T c.args.node c.args.label = c.slot_below-slot.ensures in
    let fits : FitsSigned w32 c.base_field.result = search rules in
    let bare : T₁.stored c.slot_below-slot.result ≡ AtBase 0 = popped.stored ∙ ap (reading g.L.Layout.kind) (to_z-of_z w32 c.base_field.result fits) ∙ c.base_field.ensures in
    let held = held_after size T T₁ c.args.node c.args.label c.slot_below-slot.result e k popped.takes in (
      search rules,
      (
        popped.sound,
        (
          can_link_by size T T₁ ordered n.0 c.args.node c.args.label c.slot_below-slot.result _ popped.frame.size e n.1 k popped.takes bare c.slot_before-before.result c.slot_before-before.ensures,
          (
            subst (λ m. c.args.node < m) (sym popped.frame.size) c.requires.node_in,
            (
              subst (λ m. c.slot_below-slot.result < m) (sym popped.frame.size) (subst (λ s. s < size) (sym e) (slot_inside size T c.args.node c.args.label (omega (arith, c.requires.node_in)) (omega arith) k)),
              (held.0, (inr (c.args.node, popped.takes.at), held.1)),
            ),
          ),
        ),
      ),
    )

pub returns-clause-added : goal.returns-clause-added
returns-clause-added g c =
    let T = cells c.args.table.now in
    let size = size_of (fields c.args.table.now) in
    let ordered = (fields c.args.table.now).ordered in
    let n = c.requires.node in
    let popped = c.pop_e_node.ensures in
    let k : CanAdd size T c.args.node c.args.label = can_add_at size T ordered n.0 c.args.node c.args.label n.1 c.requires.positive (omega (arith, c.ranges.label.fits)) c.requires.based c.requires.free in
    let fits : FitsSigned w32 c.base_field.result = search rules in
    label_added_by size T (cells c.pop_e_node.new.self) (cells c.link.new.self) ordered n.0 c.args.node c.args.label c.slot_below-slot.result c.slot_below-slot.ensures n.1 k popped.takes (popped.stored ∙ ap (reading g.L.Layout.kind) (to_z-of_z w32 c.base_field.result fits) ∙ c.base_field.ensures)
    c.slot_before-before.result c.slot_before-before.ensures c.link.ensures.linked

pub returns-clause-slot : goal.returns-clause-slot
returns-clause-slot g c =
    let T = cells c.args.table.now in
    let n = c.requires.node in
    let k : CanAdd (size_of (fields c.args.table.now)) T c.args.node c.args.label = can_add_at (size_of (fields c.args.table.now)) T (fields c.args.table.now).ordered n.0 c.args.node c.args.label n.1 c.requires.positive (omega (arith, c.ranges.label.fits)) c.requires.based c.requires.free in
    slot_stays (size_of (fields c.args.table.now)) T (cells c.pop_e_node.new.self) (cells c.link.new.self) c.args.node c.args.label c.slot_below-slot.result c.slot_below-slot.ensures k c.pop_e_node.ensures.takes c.slot_before-before.result c.link.ensures.linked

pub returns-clause-tree : goal.returns-clause-tree
returns-clause-tree g c = λ f w h u at.
    subst (λ n. HoldsTree n (cells c.link.new.self) (edit_at w (λ v. v) (add_leaf (fields c.args.table.now).ordered c.args.label) f)) (sym (c.link.ensures.frame.size ∙ c.pop_e_node.ensures.frame.size))
    (label_added (size_of (fields c.args.table.now)) (cells c.args.table.now) (cells c.link.new.self) c.args.label (fields c.args.table.now).ordered f w c.args.node h u at (returns-clause-added g c))

pub returns-clause-leaf : goal.returns-clause-leaf
returns-clause-leaf g c = λ w at.
    let n = c.requires.node in
    subst (IsAt (cells c.link.new.self) (w ++ c.args.label ∷ [])) (sym (returns-clause-slot g c))
    (path_of_leaf (size_of (fields c.args.table.now)) (cells c.args.table.now) (cells c.link.new.self) (fields c.args.table.now).ordered n.0 c.args.node c.args.label (returns-clause-added g c) n.1.holds w at)

pub returns-clause-paths : goal.returns-clause-paths
returns-clause-paths g c = λ v s at.
    let n = c.requires.node in
    paths_stay (size_of (fields c.args.table.now)) (cells c.args.table.now) (cells c.link.new.self) (fields c.args.table.now).ordered n.0 c.args.node c.args.label (returns-clause-added g c) n.1.holds n.1.path n.1.at v s at

pub returns-clause-root_check : goal.returns-clause-root_check
returns-clause-root_check g c =
    root_check_stays (cells c.args.table.now) (cells c.pop_e_node.new.self) (cells c.link.new.self) c.args.node c.args.label c.slot_below-slot.result c.slot_below-slot.ensures c.requires.free c.pop_e_node.ensures.takes c.slot_before-before.result c.link.ensures.linked
