use Rattle.std.proofs.Common.{◌≡◌, arith, rules, sym, ◌∙◌, ap, pos, ℤ, w32, to_z, of_z, FitsSigned}
use Rattle.std.proofs.lemmas.Bool.{eqb-true, eq-eqb}
use Rattle.std.proofs.lemmas.Int.{ints, to_z_pos, to_z-of_z}
use Rattle.cedar_slots.specs.declared.records.NodeRecord.{NodeRecord}
use Rattle.cedar_slots.specs.Slots.{blank_node, check_at}
use Rattle.cedar_table.specs.Table.Views.{cells}
use Rattle.cedar_slots.specs.Views.{places_of}
use Rattle.cedar_model.proofs.CellsLemmas.HeldSlots.{active_is}
use Rattle.cedar_table.proofs.table.Table.is_owned_by.Goals as goal

pub returns : goal.returns
returns g c =
    let r : ℤ = c.at.result.check in
    let fits : FitsSigned w32 r = search rules in
    let shaped = c.args.self.now.shaped in
    let read : r ≡ check_at c.args.self.now.places.slots.nodes.items c.args.slot = ap (λ (n : NodeRecord). n.check) (c.at.ensures blank_node) in
    let cell : r ≡ (cells c.args.self.now).check c.args.slot = read ∙ sym (active_is g.L.Layout.kind (places_of c.args.self.now.places) c.args.slot c.requires.slot_in) in
    let owner : to_z w32 c.args.owner ≡ pos c.args.owner = to_z_pos w32 c.args.owner (omega (arith, c.requires.owner_in, shaped.blocks.active_in, shaped.blocks.fits)) in (
      (λ yes. sym cell ∙ sym (to_z-of_z w32 r fits) ∙ ap (to_z w32) (eqb-true (of_z w32 r) c.args.owner yes) ∙ owner),
      (λ is. let same : r ≡ pos c.args.owner = cell ∙ is in eq-eqb (of_z w32 r) c.args.owner (ap (of_z w32) same ∙ omega (arith, ints))),
    )

pub at-requires : goal.at-requires
at-requires g c = omega (arith, c.requires.slot_in, c.args.self.now.places.blocks.ready, c.args.self.now.places.nodes_ready)
