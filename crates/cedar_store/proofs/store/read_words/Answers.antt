use Rattle.std.specs.Prelude.{Some}
use Rattle.std.proofs.Common.{◌≡◌, ◌<◌, ◌∙◌, sym, subst, rules}
use Rattle.cedar_journal.specs.Device.{FoundNoRoom}
use Rattle.cedar_journal.specs.Files.{HasExtent}
use Rattle.cedar_store.specs.Files.{state_of}
use Rattle.cedar_store.proofs.Opened.{load_cause, read_cause}
use Rattle.cedar_store.proofs.Payloads.{handed_on}
use Rattle.cedar_store.proofs.store.read_words.Goals as goal

pub returns-clause-made : goal.returns-clause-made
returns-clause-made g c =
    let same : c.deref.result.now ≡ g.D.Device.seen c.args.device.now = search rules in
    subst (λ f. state_of f ≡ Some (g.T.Words.state c.in_ok-words.words)) same c.in_ok-words.ensures.made

pub returns-clause-extent : goal.returns-clause-extent
returns-clause-extent g c =
    let same : c.deref.result.now ≡ g.D.Device.seen c.args.device.now = search rules in
    let kept = same ∙ sym c.read_file.ensures.seen in
    subst (λ f. HasExtent f c.in_ok-words.extent) kept c.in_ok-words.ensures.extent

pub returns-in_err-words-clause-cause : goal.returns-in_err-words-clause-cause
returns-in_err-words-clause-cause g c =
    let same : c.deref.result.now ≡ g.D.Device.seen c.args.device.now = search rules in
    let d = g.D.Device in
    let device = c.args.device.now in
    handed_on c.from_residual-in_err-words.result c.in_err-words.field-0.0 _ c.from_residual-in_err-words.ensures.1
    (load_cause c.deref.result.now (d.seen device) (d.faults device < d.faults c.read_file.new.device) (FoundNoRoom d.faults d.full device c.read_file.new.device) c.in_err-words.field-0.0 same c.in_err-words.ensures.cause)

pub returns-in_err-bytes-clause-cause : goal.returns-in_err-bytes-clause-cause
returns-in_err-bytes-clause-cause g c =
    let d = g.D.Device in
    let device = c.args.device.now in
    handed_on c.from_residual.result c.in_err-bytes.field-0.0 _ c.from_residual.ensures.1
    (read_cause (d.seen device) (d.faults device) (d.faults c.read_file.new.device) (FoundNoRoom d.faults d.full device c.read_file.new.device) c.in_err-bytes.field-0.0 c.in_err-bytes.ensures.cause)
