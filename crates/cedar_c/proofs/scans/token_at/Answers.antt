use Rattle.std.proofs.Common.{rules, ◌≡◌, ◌∷◌, ◌+◌, ℤ, drop, FitsSigned, Some, subst, sym, w32}
use Rattle.std.proofs.lemmas.Int.{to_z-of_z}
use Rattle.cedar_c.specs.Scans.{found_tokens}
use Rattle.cedar_c.proofs.ScanLemmas.{token_first}
use Rattle.cedar_c.proofs.scans.token_at.Goals as goal

pub returns-in-Some-clause-first : goal.returns-in-Some-clause-first
returns-in-Some-clause-first g c =
    let t = g.T.LongestPrefix.tree c.args.trie.now in
    let text = c.args.text.now in
    let place = c.args.place in
    let len = c.in-Some.others + 1 in
    let fits : FitsSigned w32 c.in-Some.value = search rules in
    let found = sym c.in-Some.ensures.answer in
    subst (λ (v : ℤ). found_tokens t place text ≡ record { place = place; length = len; value = v } ∷ found_tokens t (place + len) (drop len text))
    (sym (to_z-of_z w32 c.in-Some.value fits)) (token_first t place text (Some (c.in-Some.value, c.in-Some.others)) c.requires (search rules))
