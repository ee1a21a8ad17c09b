use Rattle.std.proofs.lemmas.Result.{err_from_is_err_and}
use Rattle.cedar_file.proofs.ChecksLemmas.Outcome.{ok_iff_both}
use Rattle.cedar_file.proofs.check.whole.check_well_formed.Goals as goal

pub returns-in_err-check_places-clause-answer : goal.returns-in_err-check_places-clause-answer
returns-in_err-check_places-clause-answer g c =
    let p = err_from_is_err_and c.from_residual.result c.from_residual.ensures.1 in
    rw p.1 (λ formed. c.in_err-check_places.ensures.answer formed.table)

pub returns-clause-answer : goal.returns-clause-answer
returns-clause-answer g c = ok_iff_both _ c.check_tree.result c.check_tree.ensures.well_formed c.check_tree.ensures.faulty
