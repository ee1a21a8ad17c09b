use Rattle.std.proofs.Common.{◌∙◌, ap}
use Rattle.cedar_store.specs.Batches.{all_erased_late, first_refused}
use Rattle.cedar_store.specs.Told.{changes_told}
use Rattle.cedar_store.proofs.Arranged.{IsGood, arranged}
use Rattle.cedar_store.proofs.FirstFaults.{none_refused, nothing_told_of, told_as_error}
use Rattle.cedar_store.proofs.batch.make.Goals as goal

pub returns-in-Ok-clause-made : goal.returns-in-Ok-clause-made
returns-in-Ok-clause-made g c =
    let s = (g.T.Words.state c.args.words.now) in
    let cs = changes_told c.args.changes.now in
    let good : IsGood s = record { ordered = c.requires; sound = c.count.ensures.sound; ascending = c.count.ensures.ascending c.requires } in
    ap (λ t. all_erased_late t cs) c.in-Ok.ensures.updated
    ∙ arranged cs s good c.in-Ok.ensures.keys

pub returns-in-Ok-clause-faulty : goal.returns-in-Ok-clause-faulty
returns-in-Ok-clause-faulty g c = nothing_told_of (first_refused 0 (changes_told c.args.changes.now)) _ (none_refused (changes_told c.args.changes.now) 0 c.in-Ok.ensures.faultless)

pub returns-in-Err-clause-faulty : goal.returns-in-Err-clause-faulty
returns-in-Err-clause-faulty g c = told_as_error _ (first_refused 0 (changes_told c.args.changes.now)) c.reason.result c.reason.ensures.fault
