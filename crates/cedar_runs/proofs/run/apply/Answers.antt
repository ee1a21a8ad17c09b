use Rattle.std.proofs.Common.{subst, sym}
use Rattle.cedar_store.specs.Changes.{all_changed}
use Rattle.cedar_store.specs.Told.{changes_told}
use Rattle.cedar_runs.specs.Steps.{IsCallStep, point_of}
use Rattle.cedar_runs.proofs.StepLemmas.{change_left, error_step, made_step}
use Rattle.cedar_runs.proofs.run.apply.Goals as goal

pub returns-in-Ok-clause-step : goal.returns-in-Ok-clause-step
returns-in-Ok-clause-step g c =
    let d = g.D.Device in
    let state = g.T.Words.state in
    let old = c.args.store.now in
    let new = c.apply_batch.new.self in
    let after = all_changed (state old.words) (changes_told c.args.changes.now) in
    let e = c.apply_batch.ensures in
    let done = c.in-Ok.ensures.made in
    made_step d.seen d.moment d.left_since d.may_leave state g.met.D.Device.counts_now g.met.D.Device.only_now old new after done.0 done.1 e.ready (change_left d.seen d.moment d.left_since d.may_leave state g.met.D.Device.counts_now g.met.D.Device.only_now old new after e.any_moment e.untouched)

pub returns-in-Err-clause-step : goal.returns-in-Err-clause-step
returns-in-Err-clause-step g c =
    let d = g.D.Device in
    let state = g.T.Words.state in
    let old = c.args.store.now in
    let new = c.apply_batch.new.self in
    let after = all_changed (state old.words) (changes_told c.args.changes.now) in
    let e = c.apply_batch.ensures in
    subst (λ o. IsCallStep d.moment d.left_since d.may_leave (point_of state old) after o (point_of state new)) (sym c.outcome_of.ensures)
    (error_step d.seen d.moment d.left_since d.may_leave state g.met.D.Device.counts_now g.met.D.Device.only_now old new after c.apply_batch.result e.any_moment e.untouched e.failed e.ready c.in-Err.error c.in-Err.is c.in-Err.ensures.err)
