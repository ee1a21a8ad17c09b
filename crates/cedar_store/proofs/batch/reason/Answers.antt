use Rattle.std.proofs.Common.{◌∙◌, sym}
use Rattle.cedar_store.specs.Batches.{first_refused}
use Rattle.cedar_store.specs.Told.{changes_told}
use Rattle.cedar_store.proofs.FirstFaults.{first_cause, nothing_told_of, same_told}
use Rattle.cedar_store.proofs.batch.reason.Goals as goal

pub returns-in-Some-clause-fault : goal.returns-in-Some-clause-fault
returns-in-Some-clause-fault c = same_told (first_refused 0 (changes_told c.args.changes.now)) c.in-Some.told (sym c.first_refused.ensures ∙ c.in-Some.is)

pub returns-in-Some-clause-cause : goal.returns-in-Some-clause-cause
returns-in-Some-clause-cause c = first_cause (changes_told c.args.changes.now) c.args.end c.in-Some.told (sym c.first_refused.ensures ∙ c.in-Some.is)

pub returns-in-None-clause-fault : goal.returns-in-None-clause-fault
returns-in-None-clause-fault c = nothing_told_of (first_refused 0 (changes_told c.args.changes.now)) _ (sym c.first_refused.ensures ∙ c.in-None.is)
