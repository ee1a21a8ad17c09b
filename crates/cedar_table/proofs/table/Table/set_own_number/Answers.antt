use Rattle.std.proofs.Common.{◌≡◌, ◌∙◌, arith, ap, inl, inr, refl, of_z, rules, subst, sym, to_z, w32, FitsSigned, Some}
use Rattle.std.proofs.lemmas.Int.{to_z-of_z}
use Rattle.cedar_model.specs.Edits.{edit_at}
use Rattle.cedar_model.specs.declared.layout.Stored.TheVariants.{OwnNumber}
use Rattle.cedar_slots.specs.declared.records.NodeRecord.{NodeRecord}
use Rattle.cedar_model.specs.Table.Layouts.{reading}
use Rattle.cedar_model.specs.Meaning.StandsFor.{HoldsTree}
use Rattle.cedar_slots.specs.Slots.{blank_node, check_at}
use Rattle.cedar_table.specs.Table.Views.{cells, fields}
use Rattle.cedar_model.specs.Table.TableFields.{size_of}
use Rattle.cedar_slots.specs.Views.{places_of}
use Rattle.cedar_model.proofs.EditLemmas.AtPath.{held_node}
use Rattle.cedar_model.proofs.CellsLemmas.HeldSlots.{active_is, held_natural}
use Rattle.cedar_model.proofs.EditLemmas.OwnNumber.{field_edited, field_written, reads_own, spare_past}
use Rattle.cedar_table.proofs.table.Table.set_own_number.Goals as goal

pub write_node-requires : goal.write_node-requires
write_node-requires g c =
    let n = c.requires.node.1 in
    let held = held_node (cells c.args.self.now) n.path c.args.node n.at in
    let stays : FitsSigned w32 c.at.result.check = search rules in
    let same : to_z w32 (of_z w32 c.at.result.check) ≡ c.at.result.check = to_z-of_z w32 c.at.result.check stays in
    let read : c.at.result.check ≡ check_at c.args.self.now.places.slots.nodes.items c.args.node = ap (λ (n : NodeRecord). n.check) (c.at.ensures blank_node) in
    let cell : to_z w32 (of_z w32 c.at.result.check) ≡ (cells c.args.self.now).check c.args.node = same ∙ read ∙ sym (active_is g.L.Layout.kind (places_of c.args.self.now.places) c.args.node c.requires.node_in) in
    (search rules, (c.requires.sound, (c.requires.node_in, (held, inr (held_natural (cells c.args.self.now) c.args.node _ c.requires.not_root cell held)))))

pub returns-clause-set : goal.returns-clause-set
returns-clause-set g c =
    let stays : FitsSigned w32 c.at.result.check = search rules in
    let same : to_z w32 (of_z w32 c.at.result.check) ≡ c.at.result.check = to_z-of_z w32 c.at.result.check stays in
    let read : c.at.result.check ≡ check_at c.args.self.now.places.slots.nodes.items c.args.node = ap (λ (n : NodeRecord). n.check) (c.at.ensures blank_node) in
    let cell : to_z w32 (of_z w32 c.at.result.check) ≡ (cells c.args.self.now).check c.args.node = same ∙ read ∙ sym (active_is g.L.Layout.kind (places_of c.args.self.now.places) c.args.node c.requires.node_in) in
    let fits : FitsSigned w32 c.args.value = search rules in
    field_written (reading g.L.Layout.kind) _ _ c.args.node (OwnNumber c.args.value) _ _ c.write_node.ensures.written (ap (reading g.L.Layout.kind) (to_z-of_z w32 c.args.value fits) ∙ reads_own g.L.Layout.kind c.args.value c.requires.layout c.requires.value) cell

pub returns-clause-tree : goal.returns-clause-tree
returns-clause-tree g c = λ f w h at.
    let T = fields c.args.self.now in
    let n = c.requires.node.1 in
    subst (λ m. HoldsTree m (cells c.write_node.new.self) (edit_at w (λ _. Some c.args.value) (λ u. u) f)) (sym c.write_node.ensures.frame.size)
    (field_edited (size_of T) (cells c.args.self.now) (cells c.write_node.new.self) f w c.args.node (size_of T) (OwnNumber c.args.value) (Some c.args.value) h at c.requires.not_root c.requires.alone (returns-clause-set g c)
    (spare_past T (omega (arith, c.requires.node_in))) (inl (c.args.value, refl, refl)))

pub at-requires : goal.at-requires
at-requires g c = omega (arith, c.requires.node_in, c.args.self.now.places.blocks.ready, c.args.self.now.places.nodes_ready)
