use Rattle.std.proofs.Common.{◌∙◌, List, ap, subst, sym}
use Rattle.cedar_scan.specs.Automata.{slot_of_path}
use Rattle.cedar_scan.specs.declared.state.State.{State}
use Rattle.cedar_scan.specs.Keywords.{IsKeywordAutomaton}
use Rattle.cedar_scan.specs.Preferred.{keys_for}
use Rattle.cedar_scan.specs.Resumed.{leftmost_from}
use Rattle.cedar_scan.specs.Scanners.{LeftmostKeys}
use Rattle.cedar_scan.proofs.PreferredLemmas.{keywords_from_are_leftmost}
use Rattle.cedar_scan.proofs.owned_leftmost.OwnedLeftmostScanner.leftmost_from.Goals as goal

pub behind-requires : goal.behind-requires
behind-requires g c =
    let t = keys_for c.self.inside.keys.kind (g.T.Placed.tree c.self.inside.keys.trie) in
    let parts = c.self.inside.parts in
    let slots = slot_of_path parts.states.items in
    subst (λ (states : List State). IsKeywordAutomaton t (slot_of_path states) states c.deref-2.result.now c.deref-3.result.now) (sym c.deref.ensures.value)
    (subst (λ falls. IsKeywordAutomaton t slots parts.states.items falls c.deref-3.result.now) (sym c.deref-2.ensures.value)
    (subst (IsKeywordAutomaton t slots parts.states.items parts.falls.items) (sym c.deref-3.ensures.value) c.self.invariant.0))

pub returns-clause-rest : goal.returns-clause-rest
returns-clause-rest g c =
    let s = c.self.inside in
    let text = c.args.text.now in
    c.behind.ensures.rest ∙ keywords_from_are_leftmost s.keys.kind (g.T.Placed.tree s.keys.trie) c.args.place text
    ∙ ap (λ (k : LeftmostKeys). leftmost_from k.kind k.tree c.args.place text) c.self.view_is
