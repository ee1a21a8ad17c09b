use Rattle.std.proofs.Common.{◌≡◌, ◌∙◌, ap, subst, sym}
use Rattle.cedar_journal.specs.Files.{file_payloads}
use Rattle.cedar_journal.specs.Image.{payloads_of}
use Rattle.cedar_salvage.specs.Restoring.{IsOfFile, IsOfRoom, RestoreCause}
use Rattle.cedar_salvage.proofs.Restoring.{is_kept, not_of_file, once_opened, once_read, once_replaced, unreplaced}
use Rattle.cedar_salvage.proofs.whole.store_with.Goals as goal

pub returns-in-Err-clause-any_moment_err : goal.returns-in-Err-clause-any_moment_err
returns-in-Err-clause-any_moment_err g c =
    let d = g.D.Device in
    let old = c.args.device in
    once_read d.moment d.left_since (d.seen old) (payloads_of c.args.image.now) old c.read_extent.new.device c.read_extent.ensures.any_moment

pub returns-in-Err-open_read-clause-any_moment_err : goal.returns-in-Err-open_read-clause-any_moment_err
returns-in-Err-open_read-clause-any_moment_err g c =
    let d = g.D.Device in
    let old = c.args.device in
    let read = c.read_extent.new.device in
    once_opened d.moment d.left_since (d.seen old) (payloads_of c.args.image.now) old read c.in-Err-open_read.device (d.seen read) c.read_extent.ensures.seen c.read_extent.ensures.any_moment
    c.in-Err-open_read.ensures.any_moment_err

pub returns-in-Ok-replace-clause-any_moment : goal.returns-in-Ok-replace-clause-any_moment
returns-in-Ok-replace-clause-any_moment g c =
    let d = g.D.Device in
    let old = c.args.device in
    let read = c.read_extent.new.device in
    let opened = c.in-Ok-open_read.journal.device in
    let payloads = payloads_of c.args.image.now in
    once_replaced d.moment d.left_since (d.seen old) payloads old opened c.replace.new.self.device (d.seen opened)
    (c.in-Ok-open_read.ensures.settled.1 ∙ ap file_payloads c.read_extent.ensures.seen)
    (once_opened d.moment d.left_since (d.seen old) payloads old read opened (d.seen read) c.read_extent.ensures.seen c.read_extent.ensures.any_moment c.in-Ok-open_read.ensures.any_moment)
    c.replace.ensures.any_moment

pub returns-clause-any_moment_err : goal.returns-clause-any_moment_err
returns-clause-any_moment_err g c =
    let d = g.D.Device in
    let old = c.args.device in
    let read = c.read_extent.new.device in
    let opened = c.in-Ok-open_read.journal.device in
    let payloads = payloads_of c.args.image.now in
    once_replaced d.moment d.left_since (d.seen old) payloads old opened c.replace.new.self.device (d.seen opened)
    (c.in-Ok-open_read.ensures.settled.1 ∙ ap file_payloads c.read_extent.ensures.seen)
    (once_opened d.moment d.left_since (d.seen old) payloads old read opened (d.seen read) c.read_extent.ensures.seen c.read_extent.ensures.any_moment c.in-Ok-open_read.ensures.any_moment)
    c.replace.ensures.any_moment

pub returns-clause-untouched : goal.returns-clause-untouched
returns-clause-untouched g c = λ is. absurd (not_of_file c.in-Err-replace.error (subst IsOfFile c.restore_error.ensures is))

pub returns-clause-seen : goal.returns-clause-seen
returns-clause-seen g c = λ is. absurd (not_of_file c.in-Err-replace.error (subst IsOfFile c.restore_error.ensures is))

pub returns-clause-kept : goal.returns-clause-kept
returns-clause-kept g c = λ is.
    let d = g.D.Device in
    let opened = c.in-Ok-open_read.journal.device in
    let new = c.replace.new.self.device in
    let same = is_kept c.in-Err-replace.error (d.seen new ≡ d.seen opened) c.in-Err-replace.ensures.kept_bytes (subst IsOfRoom c.restore_error.ensures is) in
    ap file_payloads same ∙ c.in-Ok-open_read.ensures.settled.1 ∙ ap file_payloads c.read_extent.ensures.seen

pub returns-clause-cause : goal.returns-clause-cause
returns-clause-cause g c =
    let file = g.D.Device.seen c.args.device in
    subst (λ e. RestoreCause file e) (sym c.restore_error.ensures) (unreplaced file c.in-Err-replace.error)
