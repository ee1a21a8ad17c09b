use Rattle.std.proofs.Common.{◌≡◌}
use Rattle.std.proofs.lemmas.Result.{err_from_is_err_and}
use Rattle.cedar_replies.proofs.CollectLemmas.{one_more, refused, some_more}
use Rattle.cedar_replies.proofs.texts.collect_fronts.Goals as goal

pub loop-front-preserved : goal.loop-front-preserved
loop-front-preserved g c =
    let left = g.F.NextFront.left in
    one_more c.loop-front.found.items c.add.new.found.items (left c.loop-front.walk) (left c.next_front.new.self) (left c.args.walk) c.in-Some.front c.loop-front.invariant c.in-Some.ensures c.in_ok-add.ensures

pub returns-in_err-add : goal.returns-in_err-add
returns-in_err-add g c =
    let left = g.F.NextFront.left in
    let p = err_from_is_err_and c.from_residual.result c.from_residual.ensures.1 in
    let some = some_more c.loop-front.found.items (left c.loop-front.walk) (left c.next_front.new.self) (left c.args.walk) c.in-Some.front c.loop-front.invariant c.in-Some.ensures in
    refused c.from_residual.result p.0 (λ found. found.items ≡ left c.args.walk) (left c.args.walk) p.1 p.2 some
