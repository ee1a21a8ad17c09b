use Rattle.std.proofs.Common.{length}
use Rattle.std.proofs.lemmas.Bool.{false≢true}
use Rattle.std.proofs.lemmas.Result.{err_from_is_err_and}
use Rattle.cedarwood.proofs.GeneralLemmas.{positive}
use Rattle.cedar_calls.proofs.run.reserve_for_calls.Goals as goal

pub returns-in_err-answers-clause-refused : goal.returns-in_err-answers-clause-refused
returns-in_err-answers-clause-refused g c =
    let p = err_from_is_err_and c.from_residual.result c.from_residual.ensures.1 in
    rw p.1 (positive (length c.args.calls.now) (λ none. false≢true (c.in_err-answers.ensures.succeeds none)))
