use Rattle.std.proofs.Common.{◌≡◌, ◌∙◌, ◌+◌, ◌-◌, ◌<◌, ◌++◌, ◌∷◌, [], ap, arith, drop, length, subst, sym, take}
use Rattle.std.proofs.lemmas.List.{length_push}
use Rattle.cedarwood.specs.Queries.{front}
use Rattle.cedar_words.specs.Steps.{AreCostsOver, best_of, IsMark}
use Rattle.cedar_words.specs.declared.costs.Step.{Step}
use Rattle.cedar_words.proofs.MarkLemmas.{marks_more, marks_pushed}
use Rattle.cedar_words.proofs.SpotLemmas.{rest_of}
use Rattle.cedar_words.proofs.StepLemmas.{costs_more}
use Rattle.cedar_words.proofs.costs.costs_of.Goals as goal

pub loop-left-preserved : goal.loop-left-preserved
loop-left-preserved g c =
    let t = g.T.FirstStep.tree c.args.trie.now in
    let text = c.args.text.now in
    let u = g.P.BytePrice.price_at c.args.unknown.now text in
    let costs = c.loop-left.costs.items in
    let marks = c.loop-left.marks.items in
    let left = c.loop-left.left in
    let place = length text - left in
    let len : length costs ≡ left = c.loop-left.invariant.0.0 in
    let as_many : length marks ≡ left = c.loop-left.invariant.1 in
    let step = c.first_step-step.result in
    let price = c.price-price.result in
    let is : step ≡ best_of (u place) costs (front t (drop place text)) =
    c.first_step-step.ensures.best ∙ ap (λ later. best_of price later (front t (take (length text - place) (drop place text)))) c.deref.ensures.value
    ∙ ap (λ r. best_of price costs (front t r)) (rest_of text place) ∙ ap (λ p. best_of p costs (front t (drop place text))) c.price-price.ensures in
    let some : 0 < left = omega arith in
    let mark = c.mark_of.result in
    let told : IsMark (best_of (u place) costs (front t (drop place text))) mark = subst (λ (s : Step). IsMark s mark) is c.mark_of.ensures in
    let more = costs_more t u text costs step.cost left some len (ap (λ (s : Step). s.cost) is) c.loop-left.invariant.0.1 in
    let more_marks = marks_more t u text costs marks step.cost mark left some len as_many told c.loop-left.invariant.2 in
    let pushed = c.in_ok-push-3.ensures.items in
    let marked = c.in_ok-push-4.ensures.items in (
      (
        ap length pushed ∙ length_push costs step.cost ∙ ap (λ n. n + 1) len,
        subst (λ l. AreCostsOver t u text l) (sym pushed) more,
      ),
      ap length marked ∙ length_push marks mark ∙ ap (λ n. n + 1) as_many,
      marks_pushed t u text (costs ++ step.cost ∷ []) (marks ++ mark ∷ []) _ _ pushed marked more_marks,
    )
