use Rattle.std.proofs.Common.{◌≤◌, ◌<◌, ◌+◌, ◌∙◌, ap, arith, drop, length, refl, sym}
use Rattle.cedar_store.specs.Batches.{all_erased_late}
use Rattle.cedar_store.specs.Told.{changes_told}
use Rattle.cedar_store.proofs.Late.{late_done, late_more}
use Rattle.cedar_store.proofs.Withdrawn.{as_many}
use Rattle.cedar_store.proofs.batch.erase_rest.Goals as goal

pub loop-index-init : goal.loop-index-init
loop-index-init g c = refl

pub loop-index-preserved : goal.loop-index-preserved
loop-index-preserved g c =
    let cs = changes_told c.args.changes.now in
    let i = c.loop-index.index in
    let many = as_many c.args.changes.now in
    let low : i < length cs = omega (arith, many, c.loop-index-test.true) in
    ap (λ t. all_erased_late t (drop (i + 1) cs)) c.erase_late.ensures ∙ late_more (g.T.Words.state c.loop-index.words) cs i low ∙ c.loop-index.invariant

pub returns : goal.returns
returns g c =
    let cs = changes_told c.args.changes.now in
    let many = as_many c.args.changes.now in
    let ended : length cs ≤ c.loop-index.index = omega (arith, many, c.loop-index-test.false) in
    sym (late_done (g.T.Words.state c.loop-index.words) cs c.loop-index.index ended) ∙ c.loop-index.invariant
