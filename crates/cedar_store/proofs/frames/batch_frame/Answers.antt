use Rattle.cedar_store.specs.Batches.{batch_length}
use Rattle.cedar_store.specs.Told.{changes_told}
use Rattle.cedar_store.proofs.Payloads.{handed_on}
use Rattle.cedar_store.proofs.Recorded.{frame_cause}
use Rattle.cedar_store.proofs.frames.batch_frame.Goals as goal

pub returns-in_err-payload-clause-cause : goal.returns-in_err-payload-clause-cause
returns-in_err-payload-clause-cause g c =
    handed_on c.from_residual.result c.in_err-payload.field-0.0 _ c.from_residual.ensures.1
    (frame_cause c.args.end (batch_length (changes_told c.args.changes.now)) c.in_err-payload.field-0.0 c.in_err-payload.ensures.cause)
