use Rattle.std.proofs.Common.{◌≡◌, ◌∙◌, ◌&&◌, ℕ, Bor, List, ap, false, true}
use Rattle.std.specs.Range.Bound.{bound_map}
use Rattle.std.specs.declared.ops.Bound.{Bound}
use Rattle.last_entries.specs.Nearness.{entry_told}
use Rattle.key_ranges.specs.Spans.{follows_start, holds, KeySpan}
use Rattle.cedar_c.specs.Best.{bound_if}
use Rattle.cedar_c.proofs.MatchingLemmas.{first_wanted, ok_has, ok_is}
use Rattle.cedar_c.proofs.matching.next_wanted.Goals as goal

pub returns : goal.returns
returns g c =
    let span = c.in_ok-range.range in
    let start = bound_if false c.args.behind.now in
    let given : Bound (List ℕ) = bound_map {A = Bor (List ℕ)} {B = List ℕ} (λ key. key.now) c.bound_at-start.result in
    let between = ok_is c.between.result span (λ (range : KeySpan). (w : List ℕ) → holds range w ≡ (follows_start given w && true)) c.in_ok-range.ensures.value c.between.ensures in
    let is : (w : List ℕ) → holds span w ≡ (follows_start start w && true) = λ w. between w ∙ ap (λ b. follows_start b w && true) c.bound_at-start.ensures in
    ok_has c.next_matching.result c.ok-2.result _ _ c.ok-2.ensures.value c.next_matching.ensures.found
    (λ found. first_wanted (g.M.Automaton.accepts c.args.wanted.now) c.args.trie.now.state.tree span start is (entry_told found) _)
