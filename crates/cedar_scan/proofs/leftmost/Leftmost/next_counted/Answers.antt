use Rattle.std.proofs.Common.{ap, arith, subst}
use Rattle.std.specs.Iterator.{YieldsFirst}
use Rattle.cedar_scan.specs.Keywords.{keywords_left, KeywordsLeft, tests_left}
use Rattle.cedar_scan.proofs.leftmost.Leftmost.next_counted.Goals as goal

pub invariant_of-self : goal.invariant_of-self
invariant_of-self g c = (c.self.invariant.0, c.next_keyword.ensures.cursor)

pub returns-clause-gives : goal.returns-clause-gives
returns-clause-gives g c =
    let s = c.self.inside in
    let t = g.T.Placed.tree s.trie.now in
    let new : KeywordsLeft = record {
      rest = keywords_left t s.states.now s.popped.now s.text.now c.next_keyword.new.cursor;
      steps = tests_left t s.states.now s.text.now c.next_keyword.new.cursor;
    } in
    subst (λ (w : KeywordsLeft). YieldsFirst (λ (k : KeywordsLeft). k.rest) w c.next_keyword.result new) c.self.view_is c.next_keyword.ensures.gives

pub returns-clause-cost : goal.returns-clause-cost
returns-clause-cost g c =
    let same = ap (λ (w : KeywordsLeft). w.steps) c.self.view_is in
    let cost = c.next_keyword.ensures.cost in
    omega (arith, same, cost)
