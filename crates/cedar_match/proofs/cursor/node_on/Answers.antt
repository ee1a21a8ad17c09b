use Rattle.std.proofs.Common.{◌∙◌, ap, refl, sym}
use Rattle.std.proofs.Common.{length}
use Rattle.cedar_match.proofs.MatchLemmas.{led_after, led_past, whole_state}
use Rattle.cedar_match.proofs.cursor.node_on.Goals as goal

pub returns-then-can_match : goal.returns-then-can_match
returns-then-can_match g c =
    let stands = g.T.Nodes.stands c.args.trie.now in
    let tree = g.T.Nodes.tree c.args.trie.now in
    let m = c.args.automaton.now in
    let accepts = g.M.Automaton.accepts m in
    let after = g.M.Automaton.after m in
    let may = g.M.Automaton.may_match m in
    let first = g.M.Automaton.initial m in
    let key = c.args.key.now in
    let state = c.state_at-state.ensures ∙ whole_state after may first key (length key) refl in
    let can = ap may (sym state) ∙ sym c.can_match.ensures ∙ c.if-can_match.true in
    led_after stands tree accepts after may first key c.node_after.result c.requires.led can (c.node_after.ensures key c.requires.there refl)

pub returns : goal.returns
returns g c =
    let stands = g.T.Nodes.stands c.args.trie.now in
    let tree = g.T.Nodes.tree c.args.trie.now in
    let m = c.args.automaton.now in
    let accepts = g.M.Automaton.accepts m in
    let after = g.M.Automaton.after m in
    let may = g.M.Automaton.may_match m in
    let first = g.M.Automaton.initial m in
    let key = c.args.key.now in
    let state = c.state_at-state.ensures ∙ whole_state after may first key (length key) refl in
    let cannot = ap may (sym state) ∙ sym c.can_match.ensures ∙ c.if-can_match.false in
    led_past stands tree accepts after may first key c.node_past.result c.requires.led cannot (λ rest. g.met.M.Automaton.prunes m key rest cannot) (c.node_past.ensures key c.requires.there refl)
