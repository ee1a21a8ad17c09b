use Rattle.std.proofs.Common.{◌≡◌, ◌∙◌, ap, arith, of_z, rules, sym, to_z, w32, ℤ, FitsSigned}
use Rattle.std.proofs.lemmas.Int.{to_z-of_z}
use Rattle.cedar_slots.specs.declared.records.NodeRecord.{NodeRecord}
use Rattle.cedar_slots.specs.Slots.{blank_node, check_at}
use Rattle.cedar_slots.specs.Views.{places_of}
use Rattle.cedar_model.proofs.CellsLemmas.HeldSlots.{active_is}
use Rattle.cedar_table.proofs.table.Table.check.Goals as goal

pub returns-clause-cell : goal.returns-clause-cell
returns-clause-cell g c inside =
    let r : ℤ = c.at.result.check in
    let fits : FitsSigned w32 r = search rules in
    let same : to_z w32 (of_z w32 r) ≡ r = to_z-of_z w32 r fits in
    let read : c.at.result.check ≡ check_at c.args.self.now.places.slots.nodes.items c.args.slot = ap (λ (n : NodeRecord). n.check) (c.at.ensures blank_node) in
    same ∙ read ∙ sym (active_is g.L.Layout.kind (places_of c.args.self.now.places) c.args.slot inside)

pub returns-clause-field : goal.returns-clause-field
returns-clause-field g c =
    let r : ℤ = c.at.result.check in
    let fits : FitsSigned w32 r = search rules in
    to_z-of_z w32 r fits ∙ ap (λ (n : NodeRecord). n.check) (c.at.ensures blank_node)

pub at-requires : goal.at-requires
at-requires g c = omega (arith, c.requires, c.args.self.now.places.blocks.ready, c.args.self.now.places.nodes_ready)
