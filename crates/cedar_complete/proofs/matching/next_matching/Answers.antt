use Rattle.std.proofs.Common.{rules, ◌≡◌, true, false, sym, ◌∙◌}
use Rattle.std.proofs.lemmas.Bool.{true≢false}
use Rattle.cedar_complete.proofs.WithinLemmas.{walk_listed}
use Rattle.cedar_complete.proofs.matching.next_matching.Goals as goal

pub returns-then-not-ascends-clause-refused : goal.returns-then-not-ascends-clause-refused
returns-then-not-ascends-clause-refused g c =
    let lacks : c.ascends.result ≡ false = search rules in
    λ h. absurd (true≢false (sym h ∙ sym c.ascends.ensures ∙ lacks))

pub next_accepted-requires : goal.next_accepted-requires
next_accepted-requires g c =
    let t = c.args.trie.now.state.tree in
    let up : c.ascends.result ≡ true = search rules in
    let asked = walk_listed t c.len.ensures.valid.sound (c.len.ensures.valid.ascending (sym c.ascends.ensures ∙ up)) in
    search (rules, asked)

pub returns-in-Ok-clause-found : goal.returns-in-Ok-clause-found
returns-in-Ok-clause-found g c = c.in-Ok.ensures.found

pub returns-in-Ok-clause-behind : goal.returns-in-Ok-clause-behind
returns-in-Ok-clause-behind g c = c.in-Ok.ensures.behind

pub returns-in-Ok-clause-order : goal.returns-in-Ok-clause-order
returns-in-Ok-clause-order g c =
    let up : c.ascends.result ≡ true = search rules in
    λ h. absurd (true≢false (sym up ∙ c.ascends.ensures ∙ h))

pub returns-in-Err-clause-kept : goal.returns-in-Err-clause-kept
returns-in-Err-clause-kept g c = c.in-Err.ensures.refused

pub returns-in-Err-clause-order : goal.returns-in-Err-clause-order
returns-in-Err-clause-order g c =
    let up : c.ascends.result ≡ true = search rules in
    λ h. absurd (true≢false (sym up ∙ c.ascends.ensures ∙ h))
