use Rattle.std.proofs.Common.{rules, ◌≡◌, ℕ, List, Option, Some, None, ap, sym, subst, ◌∙◌}
use Rattle.cedarwood.specs.Words.{entries_between, entries_since, GivesRange}
use Rattle.key_ranges.specs.Spans.{entries_within}
use Rattle.cedar_complete.proofs.WithinLemmas.{between_is, since_is}
use Rattle.cedar_complete.proofs.ranges.entries_in.Goals as goal

pub returns-in-Some : goal.returns-in-Some
returns-in-Some g c =
    let t = c.args.trie.now.state.tree in
    let range = c.args.range.now in
    let to : range.to ≡ Some c.in-Some.to.now = search rules in
    let is : entries_between t c.from.result.now c.in-Some.to.now ≡ entries_within t range =
    ap (λ from. entries_between t from c.in-Some.to.now) c.from.ensures
    ∙ between_is t range.from c.in-Some.to.now
    ∙ ap (λ (end : Option (List ℕ)). entries_within t (record { from = range.from; to = end })) (sym to) in
    subst (λ es. GivesRange c.args.trie.now.state es c.range_bytes.result) is c.range_bytes.ensures

pub returns-in-None : goal.returns-in-None
returns-in-None g c =
    let t = c.args.trie.now.state.tree in
    let range = c.args.range.now in
    let to : range.to ≡ None = search rules in
    let is : entries_since t c.from-in-None.result.now ≡ entries_within t range =
    ap (entries_since t) c.from-in-None.ensures
    ∙ since_is t range.from
    ∙ ap (λ (end : Option (List ℕ)). entries_within t (record { from = range.from; to = end })) (sym to) in
    subst (λ es. GivesRange c.args.trie.now.state es c.entries_from_bytes.result) is c.entries_from_bytes.ensures
