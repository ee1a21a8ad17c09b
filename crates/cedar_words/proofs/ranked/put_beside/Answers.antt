use Rattle.std.proofs.Common.{◌≡◌, ◌∙◌, ◌+◌, ◌++◌, [], IfOk, List, None, Option, Some, ap, cond, subst, sym}
use Rattle.cedar_words.specs.Ranked.{key_ways, lists_of, put_ways, run_ways, step_ways, ways_behind}
use Rattle.cedar_words.specs.declared.models.UnknownRun.{UnknownRun}
use Rattle.cedar_words.specs.declared.ranked.Way.{Way}
use Rattle.cedar_words.proofs.TableLemmas.{all_put}
use Rattle.cedar_words.proofs.ranked.put_beside.Goals as goal

pub returns-then-run : goal.returns-then-run
returns-then-run g c =
    let key = g.M.CostModel.key_cost c.args.model.now in
    let later = lists_of c.args.later.now in
    let most = c.args.most in
    let ways = c.args.ways.now.items in
    let run = c.args.run in
    let first = c.args.first in
    let over : List Way = step_ways (key first.0) (first.1 + 1) (Some first.0) 0 (ways_behind later (first.1 + 1)) in
    let more : List Way = key_ways key later (g.F.NextFront.left c.args.walk.now) in
    let put = all_put most ways c.put_key.new.ways.items c.put_keys.new.ways.items over more (run_ways later (Some run)) c.in_ok-put_key.ensures c.in_ok-put_keys.ensures in
    let own = ap (λ (o : Option UnknownRun). put_ways most ways ((over ++ more) ++ run_ways later o)) (sym (ap (λ b. cond b (Some run) None) c.if-run.true)) in
    subst (λ (ws : List Way). IfOk c.put_run.result (λ _. c.put_run.new.ways.items ≡ ws)) (put ∙ own) c.put_run.ensures

pub returns : goal.returns
returns g c =
    let key = g.M.CostModel.key_cost c.args.model.now in
    let later = lists_of c.args.later.now in
    let most = c.args.most in
    let ways = c.args.ways.now.items in
    let run = c.args.run in
    let first = c.args.first in
    let over : List Way = step_ways (key first.0) (first.1 + 1) (Some first.0) 0 (ways_behind later (first.1 + 1)) in
    let more : List Way = key_ways key later (g.F.NextFront.left c.args.walk.now) in
    all_put most ways c.put_key.new.ways.items c.put_keys.new.ways.items over more [] c.in_ok-put_key.ensures c.in_ok-put_keys.ensures
    ∙ ap (λ (o : Option UnknownRun). put_ways most ways ((over ++ more) ++ run_ways later o)) (sym (ap (λ b. cond b (Some run) None) c.if-run.false))
