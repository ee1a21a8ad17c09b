use Rattle.std.proofs.Common.{◌≡◌, ◌∙◌, ap, arith, FitsSigned, rules, subst, sym, true, w32}
use Rattle.std.proofs.lemmas.Int.{to_z-of_z}
use Rattle.cedar_match.proofs.MatchLemmas.{found_here, one_less}
use Rattle.cedar_match.specs.Matching.{leads_on, MatchLeadsTo, left_from, path_on}
use Rattle.cedar_match.proofs.cursor.next_match.Goals as goal

pub returns-then-is_match-clause-found : goal.returns-then-is_match-clause-found
returns-then-is_match-clause-found g c =
    let stands = g.T.Nodes.stands c.args.trie.now in
    let tree = g.T.Nodes.tree c.args.trie.now in
    let m = c.args.automaton.now in
    let accepts = g.M.Automaton.accepts m in
    let after = g.M.Automaton.after m in
    let may = g.M.Automaton.may_match m in
    let first = g.M.Automaton.initial m in
    let key = c.loop-next.key.items in
    let next = c.in-Some.next in
    let found = c.enter-state.new.key.items in
    let v = c.in-Some-number.number in
    let fits : FitsSigned w32 v = search rules in
    let leads = subst (λ k. MatchLeadsTo stands tree accepts (leads_on after may first) (left_from tree k) k next) c.deref.ensures.value c.in-Some.ensures in
    let is : found ≡ path_on key next = c.enter-state.ensures.key ∙ ap (λ k. path_on k next) c.in_ok-make_room.ensures.key in
    let taken : accepts found ≡ true =
    sym (g.met.M.Automaton.tells m found) ∙ ap (g.M.Automaton.matches m) (sym c.enter-state.ensures.state) ∙ sym c.is_match.ensures ∙ c.if-is_match.true in
    let here = found_here stands tree accepts after may first key next found v _ is leads c.in-Some-number.is (to_z-of_z w32 v fits) taken in
    let less = one_less stands tree accepts after may first key next found is leads in
    record { entries = c.loop-next.invariant.entries ∙ here; nodes = omega (arith, less, c.loop-next.invariant.fewer) }
