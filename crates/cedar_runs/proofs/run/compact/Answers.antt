use Rattle.std.proofs.Common.{ap, subst, sym}
use Rattle.cedar_runs.specs.Steps.{IsCallStep, point_of}
use Rattle.cedar_runs.proofs.StepLemmas.{compact_left, compaction_step, made_step}
use Rattle.cedar_runs.proofs.run.compact.Goals as goal

pub returns-in-Ok-clause-step : goal.returns-in-Ok-clause-step
returns-in-Ok-clause-step g c =
    let d = g.D.Device in
    let state = g.T.Words.state in
    let old = c.args.store.now in
    let new = c.compact.new.self in
    let e = c.compact.ensures in
    made_step d.seen d.moment d.left_since d.may_leave state g.met.D.Device.counts_now g.met.D.Device.only_now old new (state old.words) c.in-Ok.ensures.compacted.0 (ap state e.words) e.ready (compact_left d.seen d.moment d.left_since d.may_leave state g.met.D.Device.counts_now g.met.D.Device.only_now old new e.any_moment_failed)

pub returns-in-Err-clause-step : goal.returns-in-Err-clause-step
returns-in-Err-clause-step g c =
    let d = g.D.Device in
    let state = g.T.Words.state in
    let old = c.args.store.now in
    let new = c.compact.new.self in
    let e = c.compact.ensures in
    subst (λ o. IsCallStep d.moment d.left_since d.may_leave (point_of state old) (state old.words) o (point_of state new)) (sym c.outcome_of_compaction.ensures)
    (compaction_step d.seen d.moment d.left_since d.may_leave state g.met.D.Device.counts_now g.met.D.Device.only_now old new c.in-Err.error e.words e.any_moment_failed c.in-Err.ensures.err)
