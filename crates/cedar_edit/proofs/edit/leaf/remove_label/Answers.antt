use Rattle.std.proofs.Common.{◌≡◌, ◌<◌, ◌∙◌, arith, inl, inr, refl, rules, subst, sym, ap, pos}
use Rattle.cedar_model.specs.Meaning.Family.{below}
use Rattle.cedar_model.specs.Meaning.StandsFor.{HoldsTree}
use Rattle.cedar_model.specs.Tree.{without}
use Rattle.cedar_model.specs.Edits.{edit_at}
use Rattle.cedar_table.specs.Table.Views.{cells, fields}
use Rattle.cedar_model.specs.Table.TableFields.{size_of}
use Rattle.cedar_model.proofs.EditLemmas.AtPath.{held_node, label_removed, not_own_owner}
use Rattle.cedar_model.proofs.EditLemmas.SlotForLabel.{chain_of_node}
use Rattle.cedar_model.proofs.EditLemmas.Unlinked.{can_lead, owned_inside, removes_at, same_checks}
use Rattle.cedar_edit.proofs.edit.leaf.remove_label.Goals as goal

pub slot_to-before-requires : goal.slot_to-before-requires
slot_to-before-requires g c =
    let T = cells c.args.table.now in
    let size = size_of (fields c.args.table.now) in
    let n = c.requires.node in
    let chain = chain_of_node size T (fields c.args.table.now).ordered n.0 c.args.node n.1 in
    (search rules, record { node_in = c.requires.node_in; based = (owned_inside size T (fields c.args.table.now).ordered c.args.node c.args.label chain (omega (arith, c.requires.node_in)) (omega arith) c.requires.owned).0; chain = chain; root = n.1.holds.root; positive = c.requires.positive; owned = c.requires.owned })

pub sibling-next-requires : goal.sibling-next-requires
sibling-next-requires g c =
    let T = cells c.args.table.now in
    let size = size_of (fields c.args.table.now) in
    let n = c.requires.node in
    let chain = chain_of_node size T (fields c.args.table.now).ordered n.0 c.args.node n.1 in
    let inside = (owned_inside size T (fields c.args.table.now).ordered c.args.node c.args.label chain (omega (arith, c.requires.node_in)) (omega arith) c.requires.owned).1 in
    omega (arith, subst (λ s. s < size) (sym c.child_slot-slot.ensures) inside, c.args.table.now.shaped.blocks.active_in)

pub lead_to-requires : goal.lead_to-requires
lead_to-requires g c =
    let T = cells c.args.table.now in
    let size = size_of (fields c.args.table.now) in
    let n = c.requires.node in
    (search rules, (c.requires.sound, (can_lead size T c.args.node c.args.label c.slot_to-before.result c.slot_to-before.ensures, (c.requires.node_in, held_node T n.1.path c.args.node n.1.at))))

pub push_e_node-requires : goal.push_e_node-requires
push_e_node-requires g c =
    let T = cells c.args.table.now in
    let size = size_of (fields c.args.table.now) in
    let n = c.requires.node in
    let e : c.child_slot-slot.result ≡ below T c.args.node c.args.label = c.child_slot-slot.ensures in
    let led = c.lead_to.ensures in
    let chain = chain_of_node size T (fields c.args.table.now).ordered n.0 c.args.node n.1 in
    let inside = (owned_inside size T (fields c.args.table.now).ordered c.args.node c.args.label chain (omega (arith, c.requires.node_in)) (omega arith) c.requires.owned).1 in
    let mine : T.check c.child_slot-slot.result ≡ pos c.args.node = ap T.check e ∙ c.requires.owned in
    let not_root : c.child_slot-slot.result ≡ 0 → ⊥ = λ z. n.1.holds.root c.args.node (ap T.check (sym z) ∙ mine) in (
      search rules,
      (
        led.sound,
        (
          subst (λ m. c.child_slot-slot.result < m) (sym led.frame.size) (subst (λ s. s < size) (sym e) inside),
          (inr (c.args.node, same_checks T (cells c.lead_to.new.table) c.args.node c.sibling-next.result c.slot_to-before.result led.set c.child_slot-slot.result ∙ mine), omega (arith, not_root)),
        ),
      ),
    )

pub returns-clause-removed : goal.returns-clause-removed
returns-clause-removed g c =
    let T = cells c.args.table.now in
    let size = size_of (fields c.args.table.now) in
    let n = c.requires.node in
    let chain = chain_of_node size T (fields c.args.table.now).ordered n.0 c.args.node n.1 in
    removes_at size T (fields c.args.table.now).ordered c.args.node chain n.1.holds.root c.args.label (cells c.lead_to.new.table) (cells c.push_e_node.new.self) c.slot_to-before.result c.child_slot-slot.result c.sibling-next.result
    (λ z. omega (arith, z, c.requires.positive)) c.requires.owned (held_node T n.1.path c.args.node n.1.at) (not_own_owner T n.1.path c.args.node n.1.holds.root n.1.at) c.requires.bare
    c.child_slot-slot.ensures c.sibling-next.ensures c.push_e_node.ensures.gives c.slot_to-before.ensures c.lead_to.ensures.set

pub returns-clause-tree : goal.returns-clause-tree
returns-clause-tree g c = λ f w h at.
    subst (λ m. HoldsTree m (cells c.push_e_node.new.self) (edit_at w (λ v. v) (λ u. without u c.args.label) f)) (sym (c.push_e_node.ensures.frame.size ∙ c.lead_to.ensures.frame.size))
    (label_removed (size_of (fields c.args.table.now)) (cells c.args.table.now) (cells c.push_e_node.new.self) f w c.args.node c.args.label h at (returns-clause-removed g c))

pub returns-clause-root_check : goal.returns-clause-root_check
returns-clause-root_check g c =
    let T = cells c.args.table.now in
    let mine : T.check c.child_slot-slot.result ≡ pos c.args.node = ap T.check c.child_slot-slot.ensures ∙ c.requires.owned in
    let apart : 0 ≡ c.child_slot-slot.result → ⊥ = λ z. c.requires.node.1.holds.root c.args.node (ap T.check z ∙ mine) in
    (c.push_e_node.ensures.gives.other 0 apart (inl refl)).check ∙ same_checks T (cells c.lead_to.new.table) c.args.node c.sibling-next.result c.slot_to-before.result c.lead_to.ensures.set 0
