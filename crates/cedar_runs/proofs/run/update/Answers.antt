use Rattle.std.specs.Prelude.{FitsSigned}
use Rattle.std.proofs.Common.{◌∙◌, ap, rules, subst, sym}
use Rattle.std.proofs.lemmas.Int.{to_z-of_z}
use mir.Syntax.{w32}
use Rattle.cedar_store.specs.State.{after_put}
use Rattle.cedar_store.specs.Promises.{CrashLeavesEither, LeavesStore}
use Rattle.cedar_runs.specs.Steps.{IsCallStep, point_of}
use Rattle.cedar_runs.proofs.StepLemmas.{change_left, error_step, made_step}
use Rattle.cedar_runs.proofs.run.update.Goals as goal

pub returns-in-Ok-clause-step : goal.returns-in-Ok-clause-step
returns-in-Ok-clause-step g c =
    let d = g.D.Device in
    let state = g.T.Words.state in
    let old = c.args.store.now in
    let new = c.update_bytes.new.self in
    let fits : FitsSigned w32 c.args.value = search rules in
    let same = to_z-of_z w32 c.args.value fits in
    let s = state old.words in
    let key = c.args.key.now in
    let after = after_put s key c.args.value in
    let e = c.update_bytes.ensures in
    let leaves = subst (λ v. CrashLeavesEither d.moment d.left_since state old new (after_put s key v)) same e.any_moment in
    let done = c.in-Ok.ensures.stored in
    made_step d.seen d.moment d.left_since d.may_leave state g.met.D.Device.counts_now g.met.D.Device.only_now old new after done.0 (done.1 ∙ ap (after_put s key) same) e.ready
    (change_left d.seen d.moment d.left_since d.may_leave state g.met.D.Device.counts_now g.met.D.Device.only_now old new after leaves e.untouched)

pub returns-in-Err-clause-step : goal.returns-in-Err-clause-step
returns-in-Err-clause-step g c =
    let d = g.D.Device in
    let state = g.T.Words.state in
    let old = c.args.store.now in
    let new = c.update_bytes.new.self in
    let fits : FitsSigned w32 c.args.value = search rules in
    let same = to_z-of_z w32 c.args.value fits in
    let s = state old.words in
    let key = c.args.key.now in
    let after = after_put s key c.args.value in
    let e = c.update_bytes.ensures in
    let leaves = subst (λ v. CrashLeavesEither d.moment d.left_since state old new (after_put s key v)) same e.any_moment in
    let left = subst (λ v. LeavesStore state old new (after_put s key v) c.in-Err.error) same c.in-Err.ensures.err in
    subst (λ o. IsCallStep d.moment d.left_since d.may_leave (point_of state old) after o (point_of state new)) (sym c.outcome_of.ensures)
    (error_step d.seen d.moment d.left_since d.may_leave state g.met.D.Device.counts_now g.met.D.Device.only_now old new after c.update_bytes.result leaves e.untouched e.failed e.ready c.in-Err.error c.in-Err.is left)
