use Rattle.std.proofs.Common.{◌≡◌, ◌∙◌, true, ap, inl, length, refl, subst, sym}
use Rattle.cedar_journal.proofs.Moments.{started, weakens}
use Rattle.cedar_store.specs.Compactions.{CompactCause, LeavesFile}
use Rattle.cedar_store.specs.Promises.{KeepsFile}
use Rattle.cedar_store.proofs.Compacted.{before_cause, before_leaves, handed_over, only_state, replaced_cause, replaced_leaves}
use Rattle.cedar_store.proofs.store.Store.write_anew.Goals as goal

pub put_in_place-requires : goal.put_in_place-requires
put_in_place-requires g c = record { made = c.in_ok-image.ensures.made c.requires.ready.ordered; count = c.in_ok-image.ensures.count }

pub returns-in-Ok-clause-compacted : goal.returns-in-Ok-clause-compacted
returns-in-Ok-clause-compacted g c = (c.in-Ok.ensures.done.0, ap length c.in-Ok.ensures.bytes ∙ c.in_ok-image.ensures.length)

pub returns-in-Ok-clause-any_moment : goal.returns-in-Ok-clause-any_moment
returns-in-Ok-clause-any_moment g c = λ usable.
    let d = g.D.Device in
    let old = c.args.self.now in
    weakens d.moment d.left_since old.journal.device c.put_in_place.new.self.journal.device _ _
    (only_state d.seen d.may_leave old.journal.device old.journal.format old.journal.end (g.T.Words.state old.words) (c.requires.ready.consistent usable)) c.put_in_place.ensures.any_moment

pub returns-clause-any_moment : goal.returns-clause-any_moment
returns-clause-any_moment g c = λ usable.
    let d = g.D.Device in
    let old = c.args.self.now in
    weakens d.moment d.left_since old.journal.device c.put_in_place.new.self.journal.device _ _
    (only_state d.seen d.may_leave old.journal.device old.journal.format old.journal.end (g.T.Words.state old.words) (c.requires.ready.consistent usable)) c.put_in_place.ensures.any_moment

pub returns-clause-cause : goal.returns-clause-cause
returns-clause-cause g c =
    let faults = g.D.Device.faults in
    let before = faults c.args.self.now.journal.device in
    let now = faults c.put_in_place.new.self.journal.device in
    let lost = g.D.ReplaceDevice.is_lost c.put_in_place.new.self.journal.device in
    subst (CompactCause before now lost) (sym c.from.ensures)
    (replaced_cause before now lost c.in-Err.error c.put_in_place.result c.in-Err.is c.put_in_place.ensures.failed (λ is. (c.put_in_place.ensures.lost is).1))

pub returns-clause-err : goal.returns-clause-err
returns-clause-err g c =
    let d = g.D.Device in
    let old = c.args.self.now in
    let new = c.put_in_place.new.self in
    let fails = new.failed ≡ true in
    let keeps = KeepsFile d.seen d.may_leave old new in
    let stays = (new.failed ≡ old.failed) × (new.journal ≡ old.journal) in
    subst (λ e. LeavesFile e fails keeps stays) (sym c.from.ensures)
    (replaced_leaves c.in-Err.error c.put_in_place.result fails keeps stays c.in-Err.is (λ is. (c.put_in_place.ensures.lost is).0) c.put_in_place.ensures.kept)

pub returns-in_err-image-clause-any_moment_failed : goal.returns-in_err-image-clause-any_moment_failed
returns-in_err-image-clause-any_moment_failed g c =
    let d = g.D.Device in
    let device = c.args.self.now.journal.device in
    started d.moment d.left_since device _ (λ f left. inl (g.met.D.Device.only_now device f left))

pub returns-in_err-image-clause-cause : goal.returns-in_err-image-clause-cause
returns-in_err-image-clause-cause g c =
    let device = c.args.self.now.journal.device in
    handed_over c.from_residual.result c.in_err-image.field-0.0 _ c.from_residual.ensures.1
    (before_cause (g.D.Device.faults device) (g.D.Device.faults device) (g.D.ReplaceDevice.is_lost device) c.in_err-image.field-0.0 c.in_err-image.ensures.cause)

pub returns-in_err-image-clause-err : goal.returns-in_err-image-clause-err
returns-in_err-image-clause-err g c =
    handed_over c.from_residual.result c.in_err-image.field-0.0 _ c.from_residual.ensures.1
    (before_leaves c.in_err-image.field-0.0 _ _ _ c.in_err-image.ensures.cause (refl, refl))

pub returns-in-Ok-clause-counted : goal.returns-in-Ok-clause-counted
returns-in-Ok-clause-counted g c = λ was. c.put_in_place.ensures.counted was

pub returns-clause-counted : goal.returns-clause-counted
returns-clause-counted g c = λ was. c.put_in_place.ensures.counted was
