use Rattle.std.proofs.Common.{◌∙◌, List, ap, arith, subst, sym}
use Rattle.cedar_scan.specs.Automata.{IsAutomaton, slot_of_path}
use Rattle.cedar_scan.specs.declared.state.State.{State}
use Rattle.cedar_scan.specs.Resumed.{ending_behind, IsHeight}
use Rattle.cedar_scan.proofs.ResumedLemmas.{ending_start}
use Rattle.cedar_scan.proofs.owned.OwnedScanner.overlapping_from.Goals as goal

pub uncounted_state-state-requires-clause-automaton : goal.uncounted_state-state-requires-clause-automaton
uncounted_state-state-requires-clause-automaton g c =
    let keys = c.self.inside.keys.items in
    (keys, subst (λ (ss : List State). IsAutomaton (g.T.Placed.tree c.self.inside.trie) (slot_of_path ss) ss keys) (sym c.deref.ensures.value) c.self.invariant.0)

pub uncounted_state-state-requires-clause-height : goal.uncounted_state-state-requires-clause-height
uncounted_state-state-requires-clause-height g c = subst (λ t. IsHeight t c.longest_len-longest.result) (sym c.self.view_is) c.longest_len-longest.ensures

pub behind-requires-clause-automaton : goal.behind-requires-clause-automaton
behind-requires-clause-automaton g c =
    let t = g.T.Placed.tree c.self.inside.trie in
    let states = c.self.inside.states.items in
    subst (λ (ss : List State). IsAutomaton t (slot_of_path ss) ss c.deref-3.result.now) (sym c.deref-2.ensures.value)
    (subst (IsAutomaton t (slot_of_path states) states) (sym c.deref-3.ensures.value) c.self.invariant.0)

pub behind-requires-clause-place : goal.behind-requires-clause-place
behind-requires-clause-place g c = let low = c.min-start.ensures in omega (arith, low)

pub returns-clause-rest : goal.returns-clause-rest
returns-clause-rest g c =
    c.behind.ensures.rest
    ∙ ap (λ t. ending_behind t c.min-start.result c.args.text.now) c.self.view_is
    ∙ ending_start c.args.self.now c.args.text.now c.args.place c.min-start.result c.min-start.ensures

pub returns-clause-steps : goal.returns-clause-steps
returns-clause-steps g c =
    let low = c.min-start.ensures in
    let steps = c.behind.ensures.steps in
    omega (arith, low, steps)
