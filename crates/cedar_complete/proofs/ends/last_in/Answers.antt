use Rattle.std.proofs.Common.{rules, ◌≡◌, ℕ, List, true, false, Option, option_map, Bor, sym, ◌∙◌}
use Rattle.std.proofs.lemmas.Bool.{true≢false}
use Rattle.last_entries.specs.Nearness.{entry_told}
use Rattle.cedar_complete.proofs.WithinLemmas.{walk_listed}
use Rattle.cedar_complete.proofs.RangeEndLemmas.{last_within}
use Rattle.cedar_complete.proofs.ends.last_in.Goals as goal

pub returns-then-not-ascends-clause-refused : goal.returns-then-not-ascends-clause-refused
returns-then-not-ascends-clause-refused g c =
    let lacks : c.ascends.result ≡ false = search rules in
    λ h. absurd (true≢false (sym h ∙ sym c.ascends.ensures ∙ lacks))

pub last_before-requires : goal.last_before-requires
last_before-requires g c =
    let t = c.args.trie.now.state.tree in
    let up : c.ascends.result ≡ true = search rules in
    let asked = walk_listed t c.len.ensures.valid.sound (c.len.ensures.valid.ascending (sym c.ascends.ensures ∙ up)) in
    search (rules, asked)

pub returns-in-Ok-clause-found : goal.returns-in-Ok-clause-found
returns-in-Ok-clause-found g c =
    let t = c.args.trie.now.state.tree in
    let range = c.args.range.now in
    let up : c.ascends.result ≡ true = search rules in
    let to : Option (List ℕ) = option_map {T = Bor (List ℕ)} {U = List ℕ} (λ z. z.now) c.to.result in
    last_within t range c.from.result.now to (entry_told c.in-Ok.found) (entry_told c.unless_before.result) (c.len.ensures.valid.ascending (sym c.ascends.ensures ∙ up)) c.from.ensures c.to.ensures c.in-Ok.ensures
    c.unless_before.ensures

pub returns-in-Ok-clause-order : goal.returns-in-Ok-clause-order
returns-in-Ok-clause-order g c =
    let up : c.ascends.result ≡ true = search rules in
    λ h. absurd (true≢false (sym up ∙ c.ascends.ensures ∙ h))

pub returns-in-Err-clause-order : goal.returns-in-Err-clause-order
returns-in-Err-clause-order g c =
    let up : c.ascends.result ≡ true = search rules in
    λ h. absurd (true≢false (sym up ∙ c.ascends.ensures ∙ h))
