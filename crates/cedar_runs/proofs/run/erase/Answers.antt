use Rattle.std.proofs.Common.{subst, sym}
use Rattle.cedar_store.specs.State.{after_erase}
use Rattle.cedar_runs.specs.Steps.{IsCallStep, point_of}
use Rattle.cedar_runs.proofs.StepLemmas.{change_left, erasure_step, error_step}
use Rattle.cedar_runs.proofs.run.erase.Goals as goal

pub returns-in-Ok-clause-step : goal.returns-in-Ok-clause-step
returns-in-Ok-clause-step g c =
    let d = g.D.Device in
    let state = g.T.Words.state in
    let old = c.args.store.now in
    let new = c.erase_bytes.new.self in
    let after = after_erase (state old.words) c.args.key.now in
    let e = c.erase_bytes.ensures in
    subst (λ o. IsCallStep d.moment d.left_since d.may_leave (point_of state old) after o (point_of state new)) (sym c.outcome_of_erasure.ensures)
    (erasure_step d.seen d.moment d.left_since d.may_leave state g.met.D.Device.counts_now g.met.D.Device.only_now old new after c.in-Ok.held c.erase_bytes.result c.in-Ok.is e.failed c.in-Ok.ensures.erased e.ready c.in-Ok.ensures.missed (change_left d.seen d.moment d.left_since d.may_leave state g.met.D.Device.counts_now g.met.D.Device.only_now old new after e.any_moment e.untouched))

pub returns-in-Err-clause-step : goal.returns-in-Err-clause-step
returns-in-Err-clause-step g c =
    let d = g.D.Device in
    let state = g.T.Words.state in
    let old = c.args.store.now in
    let new = c.erase_bytes.new.self in
    let after = after_erase (state old.words) c.args.key.now in
    let e = c.erase_bytes.ensures in
    subst (λ o. IsCallStep d.moment d.left_since d.may_leave (point_of state old) after o (point_of state new)) (sym c.outcome_of.ensures)
    (error_step d.seen d.moment d.left_since d.may_leave state g.met.D.Device.counts_now g.met.D.Device.only_now old new after c.erase_bytes.result e.any_moment e.untouched e.failed e.ready c.in-Err.error c.in-Err.is c.in-Err.ensures.err)
