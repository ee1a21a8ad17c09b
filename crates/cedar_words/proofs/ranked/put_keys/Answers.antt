use Rattle.std.proofs.Common.{◌∙◌, ◌+◌, Some, ap, length, subst, sym}
use Rattle.cedar_words.specs.Ranked.{key_ways, lists_of, put_ways, step_ways, ways_behind}
use Rattle.cedar_words.specs.Steps.{AreWithin}
use Rattle.cedar_words.proofs.TableLemmas.{puts_append}
use Rattle.cedar_words.proofs.ranked.put_keys.Goals as goal

pub put_key-requires : goal.put_key-requires
put_key-requires g c = (subst (λ fronts. AreWithin (length c.args.later.now) fronts) c.in-Some.ensures c.loop-front.invariant.1).0

pub loop-front-preserved : goal.loop-front-preserved
loop-front-preserved g c =
    let key = g.M.CostModel.key_cost c.args.model.now in
    let later = lists_of c.args.later.now in
    let most = c.args.most in
    let ways = c.loop-front.ways.items in
    let front = c.in-Some.front in
    let more = key_ways key later (g.F.NextFront.left c.next_front.new.self) in (
      ap (λ ws. put_ways most ws more) c.in_ok-put_key.ensures
          ∙ sym (puts_append most ways (step_ways (key front.0) (front.1 + 1) (Some front.0) 0 (ways_behind later (front.1 + 1))) more)
          ∙ ap (λ fronts. put_ways most ways (key_ways key later fronts)) (sym c.in-Some.ensures)
          ∙ c.loop-front.invariant.0,
      (subst (λ fronts. AreWithin (length c.args.later.now) fronts) c.in-Some.ensures c.loop-front.invariant.1).1,
    )

pub returns : goal.returns
returns g c =
    sym (ap (λ fronts. put_ways c.args.most c.loop-front.ways.items (key_ways (g.M.CostModel.key_cost c.args.model.now) (lists_of c.args.later.now) fronts)) c.in_default.ensures) ∙ c.loop-front.invariant.0
