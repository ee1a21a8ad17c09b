use Rattle.std.proofs.Common.{◌≡◌, ◌≤ℤ◌, ◌∙◌, arith, inr, pos, refl, rules, subst, sym, ℤ, to_z, w32, FitsSigned}
use Rattle.std.proofs.lemmas.Int.{ints, to_z_pos, to_z-of_z}
use Rattle.cedar_model.specs.Table.Layouts.{reading}
use Rattle.cedar_model.proofs.RelocationLemmas.Repointed.{checks_at}
use Rattle.cedar_table.proofs.table.Table.set_check.Goals as goal

pub write_node-requires : goal.write_node-requires
write_node-requires g c =
    let owner : to_z w32 c.args.owner ≡ pos c.args.owner = to_z_pos w32 c.args.owner (omega (arith, c.requires.owner_in)) in
    (search rules, (c.requires.sound, (c.requires.slot_in, (c.requires.slot_held, inr (subst (λ z. pos 0 ≤ℤ z) (sym owner) (omega (arith, ints)))))))

pub returns-clause-at : goal.returns-clause-at
returns-clause-at g c =
    let r : ℤ = c.base.result in
    let fits : FitsSigned w32 r = search rules in
    checks_at (reading g.L.Layout.kind) _ _ c.args.slot c.args.owner _ _ c.write_node.ensures.written (to_z-of_z w32 r fits ∙ c.base.ensures) refl (to_z_pos w32 c.args.owner (omega (arith, c.requires.owner_in)))
