use Rattle.std.proofs.Common.{◌≡◌, ◌≤◌, ◌∙◌, ℕ, List, Option, Some, ap, arith, length, min, subst, sym}
use Rattle.cedar_words.specs.Words.{bytes_in, Token}
use Rattle.cedar_words.proofs.TokenLemmas.{segments_bytes, segments_few, segments_some}
use Rattle.cedar_words.proofs.segments.SegmentsIterator.size_hint.Goals as goal

pub returns-clause-lower : goal.returns-clause-lower
returns-clause-lower g c =
    let rest = c.self.inside.rest.now in
    let is = c.min.ensures in
    let some = segments_some (g.T.LongestPrefix.tree c.self.inside.trie.now) c.self.inside.place rest in
    λ _. subst (λ (tokens : List Token). c.min.result ≤ length tokens) c.self.view_is (omega (arith, is, some))

pub returns-clause-upper : goal.returns-clause-upper
returns-clause-upper g c =
    let rest = c.self.inside.rest.now in
    (tt, subst (λ (tokens : List Token). length tokens ≤ length rest) c.self.view_is (segments_few (g.T.LongestPrefix.tree c.self.inside.trie.now) c.self.inside.place rest))

pub returns-clause-hint : goal.returns-clause-hint
returns-clause-hint g c =
    let rest = c.self.inside.rest.now in
    let bytes = segments_bytes (g.T.LongestPrefix.tree c.self.inside.trie.now) c.self.inside.place rest in
    subst (λ (tokens : List Token). ◌≡◌ {A = ℕ × Option ℕ} (c.min.result, Some (length rest)) (min (bytes_in tokens) 1, Some (bytes_in tokens))) c.self.view_is
    (ap (λ n. (n, Some (length rest))) c.min.ensures ∙ ap (λ n. (min n 1, Some n)) (sym bytes))
