use Rattle.cedar_store.specs.Told.{file_error}
use Rattle.cedar_store.proofs.Opened.{file_cause}
use Rattle.cedar_store.proofs.Payloads.{handed_on}
use Rattle.cedar_store.proofs.replay.words_of.Goals as goal

pub returns-in_err-extent-clause-cause : goal.returns-in_err-extent-clause-cause
returns-in_err-extent-clause-cause g c =
    handed_on c.from_residual.result (file_error c.in_err-extent.field-0.0) _ c.from_residual.ensures.1
    (file_cause c.args.bytes.now c.in_err-extent.field-0.0 c.in_err-extent.ensures.cause)
