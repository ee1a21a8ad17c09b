use Rattle.std.proofs.Common.{◌≡◌}
use Rattle.std.proofs.lemmas.Result.{err_from_is_err_and}
use Rattle.cedar_replies.proofs.CollectLemmas.{one_more, refused, some_more}
use Rattle.cedar_replies.proofs.texts.collect_edges.Goals as goal

pub loop-edge-preserved : goal.loop-edge-preserved
loop-edge-preserved g c =
    one_more c.loop-edge.found.items c.add.new.found.items c.loop-edge.edge-iterator c.next.new.self c.args.edges c.in-Some.edge c.loop-edge.invariant c.in-Some.ensures.steps c.in_ok-add.ensures

pub returns-in_err-add : goal.returns-in_err-add
returns-in_err-add g c =
    let p = err_from_is_err_and c.from_residual.result c.from_residual.ensures.1 in
    let some = some_more c.loop-edge.found.items c.loop-edge.edge-iterator c.next.new.self c.args.edges c.in-Some.edge c.loop-edge.invariant c.in-Some.ensures.steps in
    refused c.from_residual.result p.0 (λ found. found.items ≡ c.args.edges) c.args.edges p.1 p.2 some
