use Rattle.std.proofs.Common.{◌≡◌, ◌∙◌, ◌+◌, ◌-◌, ◌<◌, ◌++◌, ◌∷◌, [], ap, arith, drop, length, subst, sym}
use Rattle.std.proofs.lemmas.List.{length_push}
use Rattle.cedarwood.specs.Queries.{front}
use Rattle.cedar_words.specs.ModelSteps.{AreCostsUpTo, best_by, TellsStep}
use Rattle.cedar_words.specs.declared.costs.Step.{Step}
use Rattle.cedar_words.proofs.KeptLemmas.{kept_pushed, kept_up}
use Rattle.cedar_words.proofs.ModelStepLemmas.{costs_up}
use Rattle.cedar_words.proofs.cuts.ends_of.Goals as goal

pub loop-left-preserved : goal.loop-left-preserved
loop-left-preserved g c =
    let t = g.T.Fronts.fronts_of c.args.trie.now in
    let text = c.args.text.now in
    let key = g.M.CostModel.key_cost c.args.model.now in
    let run = g.M.CostModel.unknown_at c.args.model.now text in
    let costs = c.loop-left.costs.items in
    let kept = c.loop-left.kept.items in
    let left = c.loop-left.left in
    let place = length text - left in
    let len : length costs ≡ left = c.loop-left.invariant.0.0 in
    let as_many : length kept ≡ left = c.loop-left.invariant.1 in
    let step = c.best_step-step.result in
    let is : step ≡ best_by key costs (run place) (front t (drop place text)) =
    c.best_step-step.ensures.best ∙ ap (λ later. best_by key later (run place) (front t (drop place text))) c.deref.ensures.value in
    let some : 0 < left = omega arith in
    let one = c.kept_of.result in
    let told : TellsStep (best_by key costs (run place) (front t (drop place text))) one = subst (λ (s : Step). TellsStep s one) is c.kept_of.ensures in
    let more = costs_up t key run text costs step.cost left some len (ap (λ (s : Step). s.cost) is) c.loop-left.invariant.0.1 in
    let more_kept = kept_up t key run text costs kept step.cost one left some len as_many told c.loop-left.invariant.2 in
    let pushed = c.in_ok-push-3.ensures.items in
    let marked = c.in_ok-push-4.ensures.items in (
      (
        ap length pushed ∙ length_push costs step.cost ∙ ap (λ n. n + 1) len,
        subst (λ l. AreCostsUpTo t key run text l) (sym pushed) more,
      ),
      ap length marked ∙ length_push kept one ∙ ap (λ n. n + 1) as_many,
      kept_pushed t key run text (costs ++ step.cost ∷ []) _ (kept ++ one ∷ []) _ pushed marked more_kept,
    )
