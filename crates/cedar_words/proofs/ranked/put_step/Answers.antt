use Rattle.std.proofs.Common.{◌∙◌, ◌+◌, ◌-◌, ◌^◌, ap, arith, drop, min, slice_index_or, sym, ℕ}
use Rattle.cedar_words.specs.Ranked.{no_way, put_way, put_ways, step_ways}
use Rattle.cedar_words.specs.declared.ranked.Way.{Way}
use Rattle.cedar_words.proofs.TableLemmas.{step_first, step_none}
use Rattle.cedar_words.proofs.ranked.put_step.Goals as goal

pub loop-rank-preserved : goal.loop-rank-preserved
loop-rank-preserved g c =
    let behind = c.args.behind.now in
    let rank = c.loop-rank.rank in
    let ways = c.loop-rank.ways.items in
    let way : ℕ → Way = λ cost. record { cost = cost; len = c.args.len; value = c.args.value; rank = rank } in
    let more = step_ways c.args.price c.args.len c.args.value (rank + 1) (drop (rank + 1) behind) in
    let cost = (slice_index_or behind rank no_way).cost in
    ap (λ ws. put_ways c.args.most ws more)
    (c.in_ok-put_way.ensures ∙ ap (λ cost. put_way c.args.most ways (way cost)) c.saturating_add.ensures ∙ ap (λ p. put_way c.args.most ways (way (min (p + cost) (2 ^ 64 - 1)))) c.from.ensures)
    ∙ sym (ap (put_ways c.args.most ways) (step_first c.args.price c.args.len c.args.value rank behind rank no_way (omega arith))) ∙ c.loop-rank.invariant

pub returns : goal.returns
returns g c = sym (ap (put_ways c.args.most c.loop-rank.ways.items) (step_none c.args.price c.args.len c.args.value c.loop-rank.rank c.args.behind.now c.loop-rank.rank (omega arith))) ∙ c.loop-rank.invariant
