use Rattle.std.proofs.Common.{◌≤◌, ◌∙◌, length, ap, arith}
use Rattle.std.proofs.lemmas.List.{take_all}
use Rattle.cedarwood.specs.State.{State}
use Rattle.cedarwood.specs.Tree.{number_at}
use Rattle.uses.specs.Counts.{count_of}
use Rattle.uses.proofs.CountLemmas.{counted_more, nothing_counted}
use Rattle.uses.proofs.counter.count.Goals as goal

pub loop-word-init : goal.loop-word-init
loop-word-init c = λ w. nothing_counted c.in_ok-counts.counts.state.tree w c.in_ok-counts.ensures.made.tree

pub loop-word-preserved : goal.loop-word-preserved
loop-word-preserved c = λ w.
    let s = c.loop-word.counts.state in
    ap (λ (t : State). number_at t.tree w) c.in_ok-add.ensures ∙ counted_more s.tree s.ordered c.args.words.now c.loop-word.word-index _ c.loop-word-test.true c.loop-word.invariant w

pub returns : goal.returns
returns c = λ w.
    let ended : length c.args.words.now ≤ c.loop-word.word-index = omega (arith, c.loop-word-test.false) in
    c.loop-word.invariant w ∙ ap (count_of w) (take_all c.loop-word.word-index c.args.words.now ended)
