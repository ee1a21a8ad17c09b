use Rattle.std.proofs.Common.{◌≡◌, ◌∙◌, ap, arith, of_z, pos, rules, sym, to_z, w32, ℤ, FitsSigned, subst, refl}
use Rattle.std.proofs.lemmas.Int.{ints, to_z-of_z}
use Rattle.cedar_slots.specs.declared.records.NodeRecord.{NodeRecord}
use Rattle.cedar_slots.specs.Slots.{blank_node, check_at}
use Rattle.cedar_slots.specs.Views.{places_of}
use Rattle.cedar_model.proofs.CellsLemmas.HeldSlots.{active_is}
use Rattle.cedar_table.proofs.table.Table.owner.Goals as goal

pub overflow_cast-result : goal.overflow_cast-result
overflow_cast-result g c =
    let r : ℤ = c.at.result.check in
    let fits : FitsSigned w32 r = search rules in
    let same : to_z w32 (of_z w32 r) ≡ r = to_z-of_z w32 r fits in
    let read : r ≡ check_at c.args.self.now.places.slots.nodes.items c.args.slot = ap (λ (n : NodeRecord). n.check) (c.at.ensures blank_node) in
    let owned : r ≡ pos c.requires.owned.0 = read ∙ sym (active_is g.L.Layout.kind (places_of c.args.self.now.places) c.args.slot c.requires.slot_in) ∙ c.requires.owned.1 in
    let value : to_z w32 (of_z w32 r) ≡ pos c.requires.owned.0 = same ∙ owned in
    let small : FitsSigned w32 (pos c.requires.owned.0) = subst (FitsSigned w32) owned fits in
    rw value (tt, omega (arith, ints, small))

pub returns : goal.returns
returns g c =
    let r : ℤ = c.at.result.check in
    let fits : FitsSigned w32 r = search rules in
    let same : to_z w32 (of_z w32 r) ≡ r = to_z-of_z w32 r fits in
    let read : r ≡ check_at c.args.self.now.places.slots.nodes.items c.args.slot = ap (λ (n : NodeRecord). n.check) (c.at.ensures blank_node) in
    let owned : r ≡ pos c.requires.owned.0 = read ∙ sym (active_is g.L.Layout.kind (places_of c.args.self.now.places) c.args.slot c.requires.slot_in) ∙ c.requires.owned.1 in
    let value : to_z w32 (of_z w32 r) ≡ pos c.requires.owned.0 = same ∙ owned in
    c.requires.owned.1 ∙ rw value refl

pub at-requires : goal.at-requires
at-requires g c = omega (arith, c.requires.slot_in, c.args.self.now.places.blocks.ready, c.args.self.now.places.nodes_ready)
