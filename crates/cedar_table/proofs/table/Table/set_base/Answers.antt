use Rattle.std.proofs.Common.{◌≡◌, ◌∙◌, arith, ap, inr, of_z, rules, sym, to_z, w32, ℤ, FitsSigned}
use Rattle.std.proofs.lemmas.Int.{to_z-of_z}
use Rattle.cedar_slots.specs.declared.records.NodeRecord.{NodeRecord}
use Rattle.cedar_model.specs.Table.Layouts.{reading}
use Rattle.cedar_slots.specs.Slots.{blank_node, check_at}
use Rattle.cedar_table.specs.Table.Views.{cells}
use Rattle.cedar_slots.specs.Views.{places_of}
use Rattle.cedar_model.proofs.CellsLemmas.HeldSlots.{active_is, held_natural}
use Rattle.cedar_model.proofs.RelocationLemmas.SetMoved.{rebased}
use Rattle.cedar_table.proofs.table.Table.set_base.Goals as goal

pub write_node-requires : goal.write_node-requires
write_node-requires g c =
    let stays : FitsSigned w32 c.at.result.check = search rules in
    let same : to_z w32 (of_z w32 c.at.result.check) ≡ c.at.result.check = to_z-of_z w32 c.at.result.check stays in
    let read : c.at.result.check ≡ check_at c.args.self.now.places.slots.nodes.items c.args.node = ap (λ (n : NodeRecord). n.check) (c.at.ensures blank_node) in
    let cell : to_z w32 (of_z w32 c.at.result.check) ≡ (cells c.args.self.now).check c.args.node = same ∙ read ∙ sym (active_is g.L.Layout.kind (places_of c.args.self.now.places) c.args.node c.requires.node_in) in
    (search rules, (c.requires.sound, (c.requires.node_in, (c.requires.node_held, inr (held_natural (cells c.args.self.now) c.args.node _ c.requires.not_root cell c.requires.node_held)))))

pub returns-clause-rebased : goal.returns-clause-rebased
returns-clause-rebased g c =
    let stays : FitsSigned w32 c.at.result.check = search rules in
    let same : to_z w32 (of_z w32 c.at.result.check) ≡ c.at.result.check = to_z-of_z w32 c.at.result.check stays in
    let read : c.at.result.check ≡ check_at c.args.self.now.places.slots.nodes.items c.args.node = ap (λ (n : NodeRecord). n.check) (c.at.ensures blank_node) in
    let cell : to_z w32 (of_z w32 c.at.result.check) ≡ (cells c.args.self.now).check c.args.node = same ∙ read ∙ sym (active_is g.L.Layout.kind (places_of c.args.self.now.places) c.args.node c.requires.node_in) in
    let base : ℤ = c.base_field.result in
    let fits : FitsSigned w32 base = search rules in
    rebased (reading g.L.Layout.kind) _ _ c.args.node c.args.base _ _ c.write_node.ensures.written (ap (reading g.L.Layout.kind) (to_z-of_z w32 base fits) ∙ c.base_field.ensures) cell

pub at-requires : goal.at-requires
at-requires g c = omega (arith, c.requires.node_in, c.args.self.now.places.blocks.ready, c.args.self.now.places.nodes_ready)
