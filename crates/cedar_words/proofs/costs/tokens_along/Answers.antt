use Rattle.std.proofs.Common.{◌≡◌, ◌∙◌, ◌+◌, ◌-◌, ◌<◌, ◌≤◌, ◌∷◌, ◌++◌, [], ap, arith, length, sym}
use Rattle.std.proofs.lemmas.List.{append_assoc}
use Rattle.cedar_words.specs.Steps.{cut_along, step_at}
use Rattle.cedar_words.proofs.StepLemmas.{along_told}
use Rattle.cedar_words.proofs.costs.tokens_along.Goals as goal

pub loop-place-preserved : goal.loop-place-preserved
loop-place-preserved g c =
    let t = g.T.FirstStep.tree c.args.trie.now in
    let text = c.args.text.now in
    let u = g.P.BytePrice.price_at c.args.unknown.now text in
    let costs = c.args.costs.now in
    let steps = step_at t u text costs in
    let place = c.loop-place.place in
    let left = length text - place in
    let len = c.token_at-len.result.0 in
    let value = c.token_at-len.result.1 in
    let some : 0 < left = omega arith in
    let within : len ≤ left = c.token_at-len.ensures.within in
    let less : length text - (place + len) ≡ left - len = omega arith in
    let tokens = c.loop-place.tokens.items in
    let later = cut_along steps 0 (place + len) (length text - (place + len)) in (
      omega (arith, within, some),
      ap (λ ts. ts ++ later) c.in_ok-push.ensures.items
          ∙ append_assoc tokens ((place, len, value) ∷ []) later
          ∙ ap (λ n. tokens ++ (place, len, value) ∷ cut_along steps 0 (place + len) n) less
          ∙ ap (λ ts. tokens ++ ts) (sym (along_told steps place left len value some c.token_at-len.ensures.len c.token_at-len.ensures.value c.token_at-len.ensures.some))
          ∙ c.loop-place.invariant.1,
    )
