use Rattle.cedar_store.specs.Told.{changes_told}
use Rattle.cedar_store.proofs.Payloads.{handed_on}
use Rattle.cedar_store.proofs.Refused.{refused_cause}
use Rattle.cedar_store.proofs.batch.prepare.Goals as goal

pub returns-in_err-update_all-clause-cause : goal.returns-in_err-update_all-clause-cause
returns-in_err-update_all-clause-cause g c =
    handed_on c.from_residual-in_err-update_all.result c.in_err-update_all.field-0.0 _ c.from_residual-in_err-update_all.ensures.1
    (refused_cause (changes_told c.args.changes.now) c.args.end c.in_err-update_all.field-0.0 c.in_err-update_all.ensures.cause)
