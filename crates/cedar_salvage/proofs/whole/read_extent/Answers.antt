use Rattle.std.proofs.Common.{◌≡◌, ◌∙◌, rules, subst, sym}
use Rattle.cedar_journal.specs.Files.{HasExtent}
use Rattle.cedar_store.specs.Told.{file_error}
use Rattle.cedar_store.proofs.Payloads.{handed_on}
use Rattle.cedar_salvage.proofs.Restoring.{refused_file, unread}
use Rattle.cedar_salvage.proofs.whole.read_extent.Goals as goal

pub returns-clause-extent : goal.returns-clause-extent
returns-clause-extent g c =
    let same : c.deref.result.now ≡ g.D.Device.seen c.args.device.now = search rules in
    let kept = same ∙ sym c.read_bytes.ensures.seen in
    subst (λ f. HasExtent f c.in_ok-extent.extent) kept c.in_ok-extent.ensures.extent

pub returns-in_err-extent-clause-cause : goal.returns-in_err-extent-clause-cause
returns-in_err-extent-clause-cause g c =
    let file = g.D.Device.seen c.args.device.now in
    let same : c.deref.result.now ≡ file = search rules in
    let why = c.in_err-extent.field-0.0 in
    handed_on c.from_residual-in_err-extent.result (file_error why) _ c.from_residual-in_err-extent.ensures.1 (refused_file c.deref.result.now file why same c.in_err-extent.ensures.cause)

pub returns-in_err-bytes-clause-cause : goal.returns-in_err-bytes-clause-cause
returns-in_err-bytes-clause-cause g c =
    let d = g.D.Device in
    let device = c.args.device.now in
    handed_on c.from_residual.result c.in_err-bytes.field-0.0 _ c.from_residual.ensures.1
    (unread (d.seen device) (d.faults device) (d.faults c.read_bytes.new.device) c.in_err-bytes.field-0.0 c.in_err-bytes.ensures.cause)
