use Rattle.std.proofs.Common.{◌≡◌, ◌<◌, ◌^◌, arith, rules, sym, ◌∙◌, ap, pos, ℤ, w32, to_z, of_z, FitsSigned}
use Rattle.std.proofs.lemmas.Bool.{eqb-true, eq-eqb}
use Rattle.std.proofs.lemmas.Int.{ints, to_z_pos, to_z-of_z}
use Rattle.cedar_table.specs.Table.Views.{cells}
use Rattle.cedar_table.proofs.table.Table.belongs.Goals as goal

pub returns-clause-answer : goal.returns-clause-answer
returns-clause-answer g c =
    let r : ℤ = c.check-check.result in
    let fits : FitsSigned w32 r = search rules in
    let cell : r ≡ (cells c.args.self.now).check c.args.slot = c.check-check.ensures.cell c.requires.slot_in in
    let low : c.args.owner < 2 ^ 31 = omega (arith, c.requires.owner_in, c.args.self.now.shaped.blocks.active_in, c.args.self.now.shaped.blocks.fits) in
    let owner : to_z w32 c.args.owner ≡ pos c.args.owner = to_z_pos w32 c.args.owner (omega arith) in (
      (λ yes. sym cell ∙ sym (to_z-of_z w32 r fits) ∙ ap (to_z w32) (eqb-true (of_z w32 r) c.args.owner yes) ∙ owner),
      (λ is. let same : r ≡ pos c.args.owner = cell ∙ is in eq-eqb (of_z w32 r) c.args.owner (ap (of_z w32) same ∙ omega (arith, ints))),
    )
