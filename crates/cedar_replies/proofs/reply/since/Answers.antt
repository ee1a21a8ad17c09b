use Rattle.std.proofs.Common.{◌<◌, length, subst}
use Rattle.std.proofs.lemmas.Result.{err_from_is_err_and}
use Rattle.cedar_replies.proofs.reply.since.Goals as goal

pub returns-in_err-collect : goal.returns-in_err-collect
returns-in_err-collect g c =
    let p = err_from_is_err_and c.from_residual.result c.from_residual.ensures.1 in
    let e = c.in_err-collect.ensures in
    let range = c.in-Some.ensures in
    rw (p.1, p.2) (e.0, range.0, subst (λ es. 0 < length es) range.1 e.1)
