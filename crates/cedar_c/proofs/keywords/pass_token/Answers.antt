use Rattle.std.proofs.Common.{◌≡◌, ◌+◌, ◌∙◌, ℤ, ℕ, List, Option, None, Some, ap, drop, subst, sym, take}
use Rattle.cedar_words.specs.Words.{longest}
use Rattle.cedar_c.specs.Scans.{WritesOn, found_keywords}
use Rattle.cedar_c.specs.declared.scans.Found.{Found}
use Rattle.cedar_c.proofs.KeywordLemmas.{byte_passed, keyword_told}
use Rattle.cedar_words.proofs.SpotLemmas.{rest_of}
use Rattle.cedar_c.proofs.keywords.pass_token.Goals as goal

pub returns-in-Some-clause-told : goal.returns-in-Some-clause-told
returns-in-Some-clause-told g c =
    let t = g.T.LongestPrefix.tree c.args.trie.now in
    let text = c.args.text.now in
    let next = c.args.next.now in
    let xs = c.args.found.now in
    let count = c.args.count in
    let found = c.in-Some.front in
    let is : ◌≡◌ {A = Option (ℤ × ℕ)} (longest t (drop next text)) (Some found) = sym (ap (longest t) (rest_of text next)) ∙ sym c.longest_prefix.ensures.answer ∙ c.in-Some.is in
    subst (λ (l : List Found). WritesOn (found_keywords t) text next (next + (found.1 + 1)) (take count xs) (take (count + 1) l)) (sym c.put_at.ensures)
    (keyword_told t text next xs count found c.requires.place c.requires.room is)

pub returns-in-None-clause-told : goal.returns-in-None-clause-told
returns-in-None-clause-told g c =
    let t = g.T.LongestPrefix.tree c.args.trie.now in
    let text = c.args.text.now in
    let next = c.args.next.now in
    let is : ◌≡◌ {A = Option (ℤ × ℕ)} (longest t (drop next text)) None = sym (ap (longest t) (rest_of text next)) ∙ sym c.longest_prefix.ensures.answer ∙ c.in-None.is in
    byte_passed t text next c.args.found.now c.args.count c.requires.place is
