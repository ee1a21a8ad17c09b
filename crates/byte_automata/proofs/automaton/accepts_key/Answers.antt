use Rattle.std.proofs.Common.{List, [], ◌∷◌, ℕ, get_or, take, sym, ◌∙◌, ap}
use Rattle.std.specs.Prelude.{fold}
use Rattle.std.proofs.lemmas.List.{take_all, take_more}
use Rattle.std.proofs.lemmas.List.Sums.{fold-append}
use Rattle.byte_automata.proofs.automaton.accepts_key.Goals as goal

pub loop-byte-preserved : goal.loop-byte-preserved
loop-byte-preserved g c =
    let m = c.args.automaton.now in
    let after = g.M.Automaton.after m in
    let first = g.M.Automaton.initial m in
    let key = c.args.key.now in
    let at = c.loop-byte.byte-index in
    c.step-state.ensures
    ∙ ap (λ s. after s (get_or key at 0)) c.loop-byte.invariant
    ∙ sym (fold-append after first (take at key) (get_or key at 0 ∷ []))
    ∙ ap (λ (l : List ℕ). fold after first l) (sym (take_more key at 0 c.loop-byte-test.true))

pub returns : goal.returns
returns g c =
    let m = c.args.automaton.now in
    let after = g.M.Automaton.after m in
    let first = g.M.Automaton.initial m in
    let key = c.args.key.now in
    let all = take_all c.loop-byte.byte-index key c.loop-byte-test.false in
    let end = c.loop-byte.invariant ∙ ap (λ (l : List ℕ). fold after first l) all in
    c.is_match.ensures ∙ ap (g.M.Automaton.matches m) end ∙ g.met.M.Automaton.tells m key
