use Rattle.cedar_words.proofs.LatticeLemmas.{keys_are, run_is}
use Rattle.cedar_words.proofs.edges.stop_at.Goals as goal

pub returns-then-place-text-clause-run : goal.returns-then-place-text-clause-run
returns-then-place-text-clause-run g c =
    let text = c.args.text.now in
    let run = g.M.CostModel.unknown_at c.args.model.now text in
    let left = g.F.NextFront.left c.next_front-key.new.self in
    run_is run text c.args.place c.unknown.result _ _ c.own_run-run.result c.if-place-text.true (c.own_run-run.ensures left) c.unknown.ensures (keys_are c.next_front-key.result _ left c.next_front-key.ensures)
