use Rattle.cedar_salvage.proofs.Openings.{keep_cause}
use Rattle.cedar_salvage.proofs.keep.keep_cut.Goals as goal

pub returns-in_err-kept-clause-cause : goal.returns-in_err-kept-clause-cause
returns-in_err-kept-clause-cause g c =
    keep_cause c.from_residual.result c.in_err-kept.field-0.0 _ _ c.from_residual.ensures.1 c.in_err-kept.ensures.err
