use Rattle.std.proofs.Common.{◌≡◌, ◌<◌, ◌-◌, ◌∙◌, ap, arith, drop, false, length, refl, subst, get_or}
use Rattle.cedar_store.specs.Batches.{is_put_by, puts, change_at}
use Rattle.cedar_store.specs.Told.{change_told, changes_told}
use Rattle.cedar_store.proofs.Late.{none_behind, one_less}
use Rattle.cedar_store.proofs.Withdrawn.{as_many, blank, told_at}
use Rattle.cedar_store.proofs.last_puts.updates_end.Goals as goal

pub loop-end-init : goal.loop-end-init
loop-end-init c =
    let cs = changes_told c.args.changes.now in
    let many = as_many c.args.changes.now in
    record { within = omega arith; no_more = λ path. none_behind path cs (length c.args.changes.now) (omega (arith, many)) }

pub loop-end-preserved : goal.loop-end-preserved
loop-end-preserved c =
    let cs = changes_told c.args.changes.now in
    let n = c.loop-end.end - 1 in
    let before = c.loop-end.invariant in
    let many = as_many c.args.changes.now in
    let some = c.loop-end-test.true in
    let low : n < length c.args.changes.now = omega (arith, before.within, some) in
    let within : n < length cs = omega (arith, many, low) in
    let there : change_at cs n ≡ change_told (get_or c.args.changes.now n blank) = told_at c.args.changes.now n low in
    record {
      within = omega (arith, before.within);
      no_more = λ path.
          one_less path cs n within (ap (puts path) there ∙ c.if-is_update.ensures refl path)
          (subst (λ m. is_put_by path (drop m cs) ≡ false) (omega (arith, some)) (before.no_more path));
    }

pub returns-then-is_update-clause-no_more : goal.returns-then-is_update-clause-no_more
returns-then-is_update-clause-no_more c = c.loop-end.invariant.no_more

pub returns-clause-no_more : goal.returns-clause-no_more
returns-clause-no_more c = c.loop-end.invariant.no_more
