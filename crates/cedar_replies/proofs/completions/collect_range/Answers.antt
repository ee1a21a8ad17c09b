use Rattle.std.proofs.lemmas.Result.{err_from_is_err_and}
use Rattle.cedar_replies.proofs.completions.collect_range.Goals as goal

pub returns-in_err-collect : goal.returns-in_err-collect
returns-in_err-collect g c =
    let p = err_from_is_err_and c.from_residual.result c.from_residual.ensures.1 in
    rw (p.1, p.2) c.in_err-collect.ensures.0
