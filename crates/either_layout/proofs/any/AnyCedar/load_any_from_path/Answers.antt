use Rattle.std.proofs.Common.{inl, inr}
use Rattle.std.proofs.lemmas.Result.{err_from_is_err_and}
use Rattle.either_layout.proofs.EitherLemmas.{loads_any_from}
use Rattle.either_layout.proofs.any.AnyCedar.load_any_from_path.Goals as goal

pub returns-in_err-opened-clause-lacks : goal.returns-in_err-opened-clause-lacks
returns-in_err-opened-clause-lacks g c =
    let p = err_from_is_err_and c.from_residual.result c.from_residual.ensures.1 in rw (p.1, p.2) (inl (inr tt))

pub returns-in_err-opened-clause-loads : goal.returns-in_err-opened-clause-loads
returns-in_err-opened-clause-loads g c =
    let p = err_from_is_err_and c.from_residual.result c.from_residual.ensures.1 in rw (p.1, p.2) (inl tt)

pub returns-clause-loads : goal.returns-clause-loads
returns-clause-loads g c =
    loads_any_from c.args.memory_limit g.F.File.Read.remaining c.args.path.now c.in_ok-opened.opened c.into_file.result c.load_opened.result c.in_ok-opened.ensures.noted c.into_file.ensures
    c.load_opened.ensures.loads
