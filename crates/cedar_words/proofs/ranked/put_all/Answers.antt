use Rattle.std.proofs.Common.{◌≡◌, ◌++◌, IfOk, length, subst, sym}
use Rattle.cedar_words.specs.Lattice.{own_run}
use Rattle.cedar_words.specs.Ranked.{key_ways, lists_of, put_ways, run_ways}
use Rattle.cedar_words.specs.Steps.{AreWithin}
use Rattle.cedar_words.proofs.ranked.put_all.Goals as goal

pub returns-in-None : goal.returns-in-None
returns-in-None g c =
    let key = g.M.CostModel.key_cost c.args.model.now in
    let later = lists_of c.args.later.now in
    subst (λ fronts. IfOk c.put_run.result (λ _. c.put_run.new.ways.items ≡ put_ways c.args.most c.args.ways.now.items (key_ways key later fronts ++ run_ways later (own_run c.args.run fronts)))) (sym c.in-None.ensures) c.put_run.ensures

pub put_beside-requires-clause-first : goal.put_beside-requires-clause-first
put_beside-requires-clause-first g c = (subst (λ fronts. AreWithin (length c.args.later.now) fronts) c.in-Some.ensures c.requires.within).0

pub put_beside-requires-clause-within : goal.put_beside-requires-clause-within
put_beside-requires-clause-within g c = (subst (λ fronts. AreWithin (length c.args.later.now) fronts) c.in-Some.ensures c.requires.within).1

pub returns-in-Some : goal.returns-in-Some
returns-in-Some g c =
    let key = g.M.CostModel.key_cost c.args.model.now in
    let later = lists_of c.args.later.now in
    subst (λ fronts. IfOk c.put_beside.result (λ _. c.put_beside.new.ways.items ≡ put_ways c.args.most c.args.ways.now.items (key_ways key later fronts ++ run_ways later (own_run c.args.run fronts)))) (sym c.in-Some.ensures) c.put_beside.ensures
