use Rattle.std.proofs.Common.{◌≡◌}
use Rattle.std.proofs.lemmas.Result.{err_from_is_err_and}
use Rattle.cedar_replies.proofs.CollectLemmas.{one_more, refused, some_more}
use Rattle.cedar_replies.proofs.texts.collect_matches.Goals as goal

pub loop-spot-preserved : goal.loop-spot-preserved
loop-spot-preserved g c =
    one_more c.loop-spot.found.items c.add.new.found.items c.loop-spot.spot-iterator c.next.new.self c.args.spots c.in-Some.spot c.loop-spot.invariant c.in-Some.ensures.steps c.in_ok-add.ensures

pub returns-in_err-add : goal.returns-in_err-add
returns-in_err-add g c =
    let p = err_from_is_err_and c.from_residual.result c.from_residual.ensures.1 in
    let some = some_more c.loop-spot.found.items c.loop-spot.spot-iterator c.next.new.self c.args.spots c.in-Some.spot c.loop-spot.invariant c.in-Some.ensures.steps in
    refused c.from_residual.result p.0 (λ found. found.items ≡ c.args.spots) c.args.spots p.1 p.2 some
