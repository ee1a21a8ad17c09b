use Rattle.std.proofs.Common.{◌≡◌, ◌<◌, ◌≤ℤ◌, ◌∙◌, ap, arith, inr, rules, subst, sym, pos, to_z, w32, FitsSigned}
use Rattle.std.proofs.lemmas.Int.{ints, to_z_pos, to_z-of_z}
use Rattle.cedar_model.specs.Table.Layouts.{reading}
use Rattle.cedar_table.specs.Table.Views.{cells}
use Rattle.cedar_model.proofs.EditLemmas.KeptSlotGiven.{claimed}
use Rattle.cedar_table.proofs.table.Table.claim.Goals as goal

pub write_node-requires : goal.write_node-requires
write_node-requires g c =
    let owner : to_z w32 c.args.owner ≡ pos c.args.owner = to_z_pos w32 c.args.owner (omega (arith, c.requires.owner_in)) in
    (search rules, (c.requires.sound, (c.requires.slot_in, (c.requires.slot_held, inr (subst (λ z. pos 0 ≤ℤ z) (sym owner) (omega (arith, ints)))))))

pub write_info-requires : goal.write_info-requires
write_info-requires g c =
    let owner : to_z w32 c.args.owner ≡ pos c.args.owner = to_z_pos w32 c.args.owner (omega (arith, c.requires.owner_in)) in
    (search rules, (c.write_node.ensures.sound, (subst (λ n. c.args.slot < n) (sym c.write_node.ensures.frame.size) c.requires.slot_in, inr (c.args.owner, c.write_node.ensures.written.check_at ∙ owner))))

pub returns-clause-takes : goal.returns-clause-takes
returns-clause-takes g c =
    claimed (reading g.L.Layout.kind) (cells c.args.self.now) (cells c.write_node.new.self) (cells c.write_info.new.self) c.args.slot c.args.owner _ _ (to_z_pos w32 c.args.owner (omega (arith, c.requires.owner_in))) c.write_node.ensures.written c.write_info.ensures.written

pub returns-clause-base : goal.returns-clause-base
returns-clause-base g c =
    let fits : FitsSigned w32 c.args.base = search rules in
    c.write_info.ensures.written.base c.args.slot ∙ c.write_node.ensures.written.base_at ∙ to_z-of_z w32 c.args.base fits

pub returns-clause-stored : goal.returns-clause-stored
returns-clause-stored g c =
    let fits : FitsSigned w32 c.args.base = search rules in
    c.write_info.ensures.written.stored c.args.slot ∙ c.write_node.ensures.written.stored_at ∙ ap (reading g.L.Layout.kind) (to_z-of_z w32 c.args.base fits)
