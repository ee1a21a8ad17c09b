use Rattle.std.proofs.Common.{◌≡◌, ◌<◌, ◌∙◌, ap, arith, length, refl, sym, get_or}
use Rattle.cedar_store.specs.Batches.{change_at, puts}
use Rattle.cedar_store.specs.Told.{change_told, changes_told}
use Rattle.cedar_store.proofs.Late.{none_from, put_here, put_later}
use Rattle.cedar_store.proofs.Withdrawn.{as_many, blank, told_at}
use Rattle.cedar_store.proofs.last_puts.is_among.Goals as goal

pub loop-index-init : goal.loop-index-init
loop-index-init c = refl

pub loop-index-preserved : goal.loop-index-preserved
loop-index-preserved c =
    let cs = changes_told c.args.changes.now in
    let i = c.loop-index.index in
    let many = as_many c.args.changes.now in
    let inside : i < length c.args.changes.now = omega (arith, c.loop-index-test.true, c.requires.within) in
    let low : i < length cs = omega (arith, many, inside) in
    let there : change_at cs i ≡ change_told (get_or c.args.changes.now i blank) = told_at c.args.changes.now i inside in
    put_later c.args.key.now cs i low (ap (puts c.args.key.now) there ∙ sym c.if-puts.ensures) ∙ c.loop-index.invariant

pub returns-then-puts : goal.returns-then-puts
returns-then-puts c =
    let cs = changes_told c.args.changes.now in
    let i = c.loop-index.index in
    let many = as_many c.args.changes.now in
    let inside : i < length c.args.changes.now = omega (arith, c.loop-index-test.true, c.requires.within) in
    let low : i < length cs = omega (arith, many, inside) in
    let there : change_at cs i ≡ change_told (get_or c.args.changes.now i blank) = told_at c.args.changes.now i inside in
    sym (put_here c.args.key.now cs i low (ap (puts c.args.key.now) there ∙ sym c.if-puts.ensures)) ∙ c.loop-index.invariant

pub returns : goal.returns
returns c =
    let cs = changes_told c.args.changes.now in
    sym (none_from c.args.key.now cs c.args.end c.loop-index.index (c.requires.no_more c.args.key.now) (omega (arith, c.loop-index-test.false))) ∙ c.loop-index.invariant
