use Rattle.std.proofs.Common.{◌≡◌, ◌≤ℤ◌, Bool, arith, false, of_z, pos, refl, rules, to_z, true, w32, ℤ, FitsSigned}
use Rattle.std.proofs.lemmas.Int.{ints, to_z-of_z}
use lib.Dec.{T}
use Rattle.cedar_table.specs.Table.Views.{cells}
use Rattle.cedar_model.proofs.CellsLemmas.HeldSlots.{held_natural, natural_held}
use Rattle.cedar_table.proofs.table.Table.is_held.Goals as goal

is_true : (t : Bool) → T t → t ≡ true
is_true true h = refl
is_true false h = absurd h

pub returns-else-slot-eq0-clause-held : goal.returns-else-slot-eq0-clause-held
returns-else-slot-eq0-clause-held g c =
    let read = c.check-check.ensures.cell c.requires in
    let r : ℤ = c.check-check.result in
    let fits : FitsSigned w32 r = search rules in
    let same : to_z w32 (of_z w32 r) ≡ r = to_z-of_z w32 r fits in
    rw same (
      λ natural. natural_held (cells c.args.self.now) c.args.slot c.check-check.result read (omega (arith, ints)),
      λ held. let natural : pos 0 ≤ℤ c.check-check.result = held_natural (cells c.args.self.now) c.args.slot c.check-check.result c.if-slot-eq0.false read held in is_true _ natural.le,
    )
