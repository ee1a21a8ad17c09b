use Rattle.std.proofs.Common.{◌≡◌, ◌<◌, ◌≤◌, ◌∙◌, ap, arith, length, refl, sym, get_or}
use Rattle.cedar_store.specs.Batches.{change_at, change_fault}
use Rattle.cedar_store.specs.Told.{change_told, changes_told}
use Rattle.cedar_store.proofs.FirstFaults.{first_here, first_later, has_fault, has_none, none_behind}
use Rattle.cedar_store.proofs.Withdrawn.{as_many, blank, told_at}
use Rattle.cedar_store.proofs.faults.first_refused.Goals as goal

pub loop-index-init : goal.loop-index-init
loop-index-init c = refl

pub loop-index-preserved : goal.loop-index-preserved
loop-index-preserved c =
    let cs = changes_told c.args.changes.now in
    let i = c.loop-index.index in
    let many = as_many c.args.changes.now in
    let low : i < length cs = omega (arith, many, c.loop-index-test.true) in
    let there : change_at cs i ≡ change_told (get_or c.args.changes.now i blank) = told_at c.args.changes.now i c.loop-index-test.true in
    first_later cs i low (ap change_fault there ∙ has_none (change_fault (change_told (get_or c.args.changes.now i blank))) (λ e. e) c.check_change.result tt c.check_change.ensures.faulty c.in-Ok.is) ∙ c.loop-index.invariant

pub returns-in-Err : goal.returns-in-Err
returns-in-Err c =
    let cs = changes_told c.args.changes.now in
    let i = c.loop-index.index in
    let many = as_many c.args.changes.now in
    let low : i < length cs = omega (arith, many, c.loop-index-test.true) in
    let there : change_at cs i ≡ change_told (get_or c.args.changes.now i blank) = told_at c.args.changes.now i c.loop-index-test.true in
    sym (first_here cs i c.in-Err.error low (ap change_fault there ∙ has_fault (change_fault (change_told (get_or c.args.changes.now i blank))) c.check_change.result c.in-Err.error c.check_change.ensures.faulty c.check_change.ensures.sound c.in-Err.is)) ∙ c.loop-index.invariant

pub returns : goal.returns
returns c =
    let cs = changes_told c.args.changes.now in
    let i = c.loop-index.index in
    let many = as_many c.args.changes.now in
    let ended : length cs ≤ i = omega (arith, many, c.loop-index-test.false) in
    sym (none_behind cs i ended) ∙ c.loop-index.invariant
