use Rattle.std.proofs.Common.{◌+◌, ◌-◌, ◌∷◌, ◌<◌, ◌∙◌, ℕ, List, ap, arith, drop, length, rules, sym}
use Rattle.std.proofs.lemmas.List.{length-drop, take_all}
use Rattle.cedar_words.specs.Words.{tokens_behind}
use Rattle.cedar_words.proofs.TokenLemmas.{tokens_step}
use Rattle.cedar_words.proofs.segments.SegmentsIterator.next.Goals as goal

pub returns-clause-steps : goal.returns-clause-steps
returns-clause-steps g c =
    let t = g.T.LongestPrefix.tree c.self.inside.trie.now in
    let place = c.self.inside.place in
    let rest = c.self.inside.rest.now in
    let some : 0 < length rest = search rules in
    let found = c.first_token-len in
    let len = found.result.0 in
    let left = length-drop len rest in
    sym c.self.view_is ∙ tokens_step t place rest len found.result.1 some found.ensures.len found.ensures.number
    ∙ ap (λ (later : List ℕ). (place, len, found.result.1) ∷ tokens_behind t 0 (place + len) later) (sym (take_all (length rest - len) (drop len rest) (omega (arith, left))))

pub returns-clause-goes : goal.returns-clause-goes
returns-clause-goes g c =
    let fewer = ap length (returns-clause-steps g c) in
    record { on = λ _. (tt, tt, omega (arith, fewer)); keeps = tt; rests = λ _. tt }
