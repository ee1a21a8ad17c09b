use Rattle.std.proofs.Common.{◌≡◌, ◌<◌, ◌∙◌, arith, inl, inr, refl, rules, subst, sym, ap, pos, None}
use Rattle.cedar_model.specs.Edits.{edit_at}
use Rattle.cedar_model.specs.Table.Cells.{Gives}
use Rattle.cedar_model.specs.Edit.NodeEdits.{SetsChild}
use Rattle.cedar_model.specs.Meaning.Family.{below}
use Rattle.cedar_model.specs.Meaning.StandsFor.{HoldsTree}
use Rattle.cedar_table.specs.Table.Views.{cells, fields}
use Rattle.cedar_model.specs.Table.TableFields.{size_of}
use Rattle.cedar_model.proofs.EditLemmas.AtPath.{held_node, not_own_owner, number_dropped_at}
use Rattle.cedar_model.proofs.EditLemmas.SlotGiven.{drops_number}
use Rattle.cedar_model.proofs.EditLemmas.SlotForLabel.{lead_inside}
use Rattle.cedar_edit.proofs.edit.number.drop_number.Goals as goal

pub sibling-first-requires : goal.sibling-first-requires
sibling-first-requires g c =
    let size = size_of (fields c.args.table.now) in
    omega (arith, subst (λ s. s < size) (sym c.child_slot-slot.ensures) (lead_inside size (cells c.args.table.now) c.args.node c.requires.based.1), c.args.table.now.shaped.blocks.active_in)

pub set_child-requires : goal.set_child-requires
set_child-requires g c =
    let n = c.requires.node in
    (search rules, (c.requires.sound, (c.requires.node_in, held_node (cells c.args.table.now) n.1.path c.args.node n.1.at)))

pub push_e_node-requires : goal.push_e_node-requires
push_e_node-requires g c =
    let T = cells c.args.table.now in
    let size = size_of (fields c.args.table.now) in
    let n = c.requires.node in
    let e : c.child_slot-slot.result ≡ below T c.args.node 0 = c.child_slot-slot.ensures in
    let first = c.set_child.ensures in
    let mine : T.check c.child_slot-slot.result ≡ pos c.args.node = ap T.check e ∙ c.requires.owned in
    let not_root : c.child_slot-slot.result ≡ 0 → ⊥ = λ z. n.1.holds.root c.args.node (ap T.check (sym z) ∙ mine) in (
      search rules,
      (
        first.sound,
        (
          subst (λ m. c.child_slot-slot.result < m) (sym first.frame.size) (subst (λ s. s < size) (sym e) (lead_inside size T c.args.node c.requires.based.1)),
          (inr (c.args.node, first.set.check c.child_slot-slot.result ∙ mine), omega (arith, not_root)),
        ),
      ),
    )

pub returns-clause-dropped : goal.returns-clause-dropped
returns-clause-dropped g c =
    let T = cells c.args.table.now in
    let n = c.requires.node in
    let e : c.child_slot-slot.result ≡ below T c.args.node 0 = c.child_slot-slot.ensures in
    drops_number (size_of (fields c.args.table.now)) T (cells c.set_child.new.self) (cells c.push_e_node.new.self) n.0 c.args.node n.1.holds c.requires.owned (held_node T n.1.path c.args.node n.1.at) (not_own_owner T n.1.path c.args.node n.1.holds.root n.1.at) c.requires.based
    (subst (SetsChild T (cells c.set_child.new.self) c.args.node) (c.sibling-first.ensures ∙ ap T.sibling e) c.set_child.ensures.set)
    (subst (Gives (cells c.set_child.new.self) (cells c.push_e_node.new.self)) e c.push_e_node.ensures.gives)

pub returns-clause-tree : goal.returns-clause-tree
returns-clause-tree g c = λ f w h at.
    subst (λ m. HoldsTree m (cells c.push_e_node.new.self) (edit_at w (λ _. None) (λ u. u) f)) (sym (c.push_e_node.ensures.frame.size ∙ c.set_child.ensures.frame.size))
    (number_dropped_at (size_of (fields c.args.table.now)) (cells c.args.table.now) (cells c.push_e_node.new.self) f w c.args.node (λ z. omega (arith, z, c.requires.not_root)) h at (returns-clause-dropped g c))

pub returns-clause-root_check : goal.returns-clause-root_check
returns-clause-root_check g c =
    let T = cells c.args.table.now in
    let mine : T.check c.child_slot-slot.result ≡ pos c.args.node = ap T.check c.child_slot-slot.ensures ∙ c.requires.owned in
    let apart : 0 ≡ c.child_slot-slot.result → ⊥ = λ z. c.requires.node.1.holds.root c.args.node (ap T.check z ∙ mine) in
    (c.push_e_node.ensures.gives.other 0 apart (inl refl)).check ∙ c.set_child.ensures.set.check 0
