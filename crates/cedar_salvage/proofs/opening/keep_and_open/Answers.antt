use Rattle.std.specs.Prelude.{is_some}
use Rattle.std.proofs.Common.{◌∙◌, ap, subst, sym}
use Rattle.cedar_journal.specs.Files.{ends_closed, format_of}
use Rattle.cedar_store.specs.Files.{format_named, IsCorrupt, state_of}
use Rattle.cedar_salvage.proofs.Openings.{cause_since, stands_kept, stands_opened, stays_kept, stays_opened}
use Rattle.cedar_salvage.proofs.opening.keep_and_open.Goals as goal

pub returns-in-Ok-open-clause-made : goal.returns-in-Ok-open-clause-made
returns-in-Ok-open-clause-made g c = ap state_of (sym c.keep_cut.ensures.seen) ∙ c.in-Ok-open.ensures.made

pub returns-in-Ok-open-clause-sound : goal.returns-in-Ok-open-clause-sound
returns-in-Ok-open-clause-sound g c = λ is. c.in-Ok-open.ensures.sound (subst IsCorrupt (sym c.keep_cut.ensures.seen) is)

pub returns-in-Ok-open-clause-format : goal.returns-in-Ok-open-clause-format
returns-in-Ok-open-clause-format g c = c.in-Ok-open.ensures.format ∙ ap (λ f. format_named (format_of f)) c.keep_cut.ensures.seen

pub returns-in-Ok-open-clause-any_moment : goal.returns-in-Ok-open-clause-any_moment
returns-in-Ok-open-clause-any_moment g c =
    let d = g.D.Device in
    let kept = c.keep_cut.ensures in
    stands_opened d.seen d.may_leave d.moment d.left_since g.met.D.Device.only_now c.args.device c.keep_cut.new.device c.requires.restarted kept.seen kept.restarted kept.time
    c.in-Ok-open.store.journal.device c.in-Ok-open.ensures.any_moment

pub returns-in-Ok-open-clause-at_rest : goal.returns-in-Ok-open-clause-at_rest
returns-in-Ok-open-clause-at_rest g c = λ named closed.
    let d = g.D.Device in
    let kept = c.keep_cut.ensures in
    stays_opened d.seen d.may_leave d.moment d.left_since g.met.D.Device.only_now c.args.device c.keep_cut.new.device c.requires.restarted kept.seen kept.restarted kept.time
    c.in-Ok-open.store.journal.device
    (c.in-Ok-open.ensures.at_rest (ap (λ f. is_some (format_of f)) kept.seen ∙ named) (ap (λ f. ends_closed f c.in-Ok-open.store.journal.end) kept.seen ∙ closed))

pub returns-in-Err-open-clause-none_err : goal.returns-in-Err-open-clause-none_err
returns-in-Err-open-clause-none_err g c = λ _. c.in-Ok.ensures.none

pub returns-in-Err-open-clause-any_moment_err : goal.returns-in-Err-open-clause-any_moment_err
returns-in-Err-open-clause-any_moment_err g c =
    let d = g.D.Device in
    let kept = c.keep_cut.ensures in
    stands_opened d.seen d.may_leave d.moment d.left_since g.met.D.Device.only_now c.args.device c.keep_cut.new.device c.requires.restarted kept.seen kept.restarted kept.time
    c.in-Err-open.device c.in-Err-open.ensures.any_moment_err

pub returns-in-Err-open-clause-untouched : goal.returns-in-Err-open-clause-untouched
returns-in-Err-open-clause-untouched g c = λ is.
    let d = g.D.Device in
    let kept = c.keep_cut.ensures in
    stays_opened d.seen d.may_leave d.moment d.left_since g.met.D.Device.only_now c.args.device c.keep_cut.new.device c.requires.restarted kept.seen kept.restarted kept.time
    c.in-Err-open.device (c.in-Err-open.ensures.untouched is)

pub returns-in-Err-open-clause-seen : goal.returns-in-Err-open-clause-seen
returns-in-Err-open-clause-seen g c = λ is. c.in-Err-open.ensures.seen is ∙ c.keep_cut.ensures.seen

pub returns-in-Err-open-clause-cause : goal.returns-in-Err-open-clause-cause
returns-in-Err-open-clause-cause g c =
    let d = g.D.Device in
    cause_since d.seen d.faults d.full c.args.device c.keep_cut.new.device c.in-Err-open.device c.in-Err-open.error c.keep_cut.ensures.seen c.in-Ok.ensures.done c.keep_cut.ensures.room c.in-Err-open.ensures.cause

pub returns-in-Err-open-clause-unfailed : goal.returns-in-Err-open-clause-unfailed
returns-in-Err-open-clause-unfailed g c = λ is. c.in-Err-open.ensures.unfailed is ∙ c.in-Ok.ensures.done

pub returns-in-Err-clause-any_moment_err : goal.returns-in-Err-clause-any_moment_err
returns-in-Err-clause-any_moment_err g c =
    let d = g.D.Device in
    let kept = c.keep_cut.ensures in
    stands_kept d.seen d.may_leave d.moment d.left_since g.met.D.Device.only_now c.args.device c.keep_cut.new.device c.requires.restarted kept.seen kept.restarted kept.time

pub returns-in-Err-clause-untouched : goal.returns-in-Err-clause-untouched
returns-in-Err-clause-untouched g c = λ _.
    let d = g.D.Device in
    let kept = c.keep_cut.ensures in
    stays_kept d.seen d.may_leave d.moment d.left_since g.met.D.Device.only_now c.args.device c.keep_cut.new.device c.requires.restarted kept.seen kept.restarted kept.time
