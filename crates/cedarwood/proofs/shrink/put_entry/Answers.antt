use Rattle.std.proofs.Common.{◌∙◌, FitsSigned, rules, w32}
use Rattle.std.proofs.lemmas.Int.{to_z-of_z}
use Rattle.std.proofs.lemmas.Result.{err_from_is_err_and}
use Rattle.cedarwood.specs.Shrinking.{entry_of}
use Rattle.cedarwood.proofs.ShrinkLemmas.{is_put, no_key}
use Rattle.cedarwood.proofs.shrink.put_entry.Goals as goal

pub returns-in_err-write_key : goal.returns-in_err-write_key
returns-in_err-write_key g c =
    let p = err_from_is_err_and c.from_residual.result c.from_residual.ensures.1 in
    no_key g.L.Layout.kind g.row.SLOTS _ _ (entry_of (g.T.Walked.shown c.args.from.now) c.args.place) c.from_residual.result p.0 p.1 p.2

pub returns : goal.returns
returns g c =
    let T = g.T.Walked.shown c.args.from.now in
    let fits : FitsSigned w32 c.args.place.number = search rules in
    is_put g.L.Layout.kind g.row.SLOTS _ _ (entry_of T c.args.place) _ _ _ (c.as_slice.ensures.value ∙ c.in_ok-write_key.ensures.written) (to_z-of_z w32 c.args.place.number fits) c.update_bytes.ensures.updated
