use Rattle.std.proofs.Common.{◌≡◌, ◌∙◌, ◌+◌, ◌-◌, ◌<◌, ◌≤◌, ◌∷◌, ◌++◌, [], ap, arith, length, sym}
use Rattle.std.proofs.lemmas.List.{append_assoc}
use Rattle.cedar_words.specs.ModelSteps.{step_by}
use Rattle.cedar_words.specs.Steps.{cut_along}
use Rattle.cedar_words.proofs.StepLemmas.{along_told}
use Rattle.cedar_words.proofs.cuts.best_tokens.Goals as goal

pub loop-place-preserved : goal.loop-place-preserved
loop-place-preserved g c =
    let text = c.args.text.now in
    let steps = step_by (g.T.Fronts.fronts_of c.args.trie.now) (g.M.CostModel.key_cost c.args.model.now) (g.M.CostModel.unknown_at c.args.model.now text) text c.args.costs.now in
    let place = c.loop-place.place in
    let left = length text - place in
    let len = c.best_token-len.result.0 in
    let value = c.best_token-len.result.1 in
    let some : 0 < left = omega arith in
    let within : len ≤ left = c.best_token-len.ensures.within in
    let less : length text - (place + len) ≡ left - len = omega arith in
    let tokens = c.loop-place.tokens.items in
    let later = cut_along steps 0 (place + len) (length text - (place + len)) in (
      omega (arith, within, some),
      ap (λ ts. ts ++ later) c.in_ok-push.ensures.items
          ∙ append_assoc tokens ((place, len, value) ∷ []) later
          ∙ ap (λ n. tokens ++ (place, len, value) ∷ cut_along steps 0 (place + len) n) less
          ∙ ap (λ ts. tokens ++ ts) (sym (along_told steps place left len value some c.best_token-len.ensures.len c.best_token-len.ensures.value c.best_token-len.ensures.some))
          ∙ c.loop-place.invariant.1,
    )
