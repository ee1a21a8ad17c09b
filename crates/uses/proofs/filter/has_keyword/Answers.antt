use Rattle.std.proofs.Common.{◌∙◌, ◌≤◌, length, ap, sym, refl, arith}
use Rattle.std.proofs.lemmas.Bool.{true≢false}
use Rattle.cedarwood.specs.Queries.{front}
use Rattle.uses.proofs.KeywordLemmas.{has_first, has_none, key_begins, none_before, none_begins}
use Rattle.cedar_words.proofs.SpotLemmas.{rest_of}
use Rattle.uses.proofs.filter.has_keyword.Goals as goal

pub returns-then-is_some : goal.returns-then-is_some
returns-then-is_some g c =
    let t = c.args.keywords.now.state.tree in
    let text = c.args.text.now in
    let place = c.loop-place.place in
    let has = c.common_prefix_iter_bytes.ensures.rest ∙ ap (front t) (rest_of text place) in
    let first = has_first c.common_prefix_iter_bytes.result.rest c.next.new.self.rest c.next.result (sym c.if-is_some.ensures) c.next.ensures.steps in
    (λ _. key_begins t text place first.0 c.next.new.self.rest c.loop-place-test.true (sym has ∙ first.1), λ _. refl)

pub loop-place-preserved : goal.loop-place-preserved
loop-place-preserved g c =
    let t = c.args.keywords.now.state.tree in
    let text = c.args.text.now in
    let place = c.loop-place.place in
    let has = c.common_prefix_iter_bytes.ensures.rest ∙ ap (front t) (rest_of text place) in
    none_before t text place c.loop-place.invariant (sym has ∙ has_none c.common_prefix_iter_bytes.result.rest c.next.new.self.rest c.next.result (sym c.if-is_some.ensures) c.next.ensures.steps)

pub returns : goal.returns
returns g c =
    let t = c.args.keywords.now.state.tree in
    let text = c.args.text.now in
    let ended : length text ≤ c.loop-place.place = omega (arith, c.loop-place-test.false) in
    (λ is. absurd (true≢false (sym is)), λ has. absurd (none_begins t text (λ k here. c.loop-place.invariant k (omega arith)) has))
