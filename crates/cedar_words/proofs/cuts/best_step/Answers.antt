use Rattle.std.proofs.Common.{◌≡◌, ◌∙◌, ◌-◌, ◌<◌, ◌≤◌, ap, arith, drop, length, subst, sym, take}
use Rattle.std.proofs.lemmas.List.{length-drop, take_all}
use Rattle.cedarwood.specs.Queries.{front}
use Rattle.cedar_words.specs.ModelSteps.{best_by}
use Rattle.cedar_words.specs.Steps.{AreWithin}
use Rattle.cedar_words.specs.declared.costs.Step.{Step}
use Rattle.cedar_words.proofs.ModelStepLemmas.{best_is}
use Rattle.cedar_words.proofs.StepLemmas.{fronts_within}
use Rattle.cedar_words.proofs.cuts.best_step.Goals as goal

pub best_of_walk-requires-clause-within : goal.best_of_walk-requires-clause-within
best_of_walk-requires-clause-within g c =
    let t = g.T.Fronts.fronts_of c.args.trie.now in
    let text = c.args.text.now in
    let place = c.args.place in
    let left = length-drop place text in
    let all : take (length text - place) (drop place text) ≡ drop place text = take_all (length text - place) (drop place text) (omega (arith, left)) in
    let many : length (drop place text) ≡ length c.args.later.now = left ∙ sym c.requires.later in
    subst (λ fronts. AreWithin (length c.args.later.now) fronts) (sym (c.fronts.ensures ∙ ap (front t) all)) (subst (λ n. AreWithin n (front t (drop place text))) many (fronts_within t (drop place text)))

pub returns-clause-best : goal.returns-clause-best
returns-clause-best g c =
    let t = g.T.Fronts.fronts_of c.args.trie.now in
    let text = c.args.text.now in
    let place = c.args.place in
    let key = g.M.CostModel.key_cost c.args.model.now in
    let run = g.M.CostModel.unknown_at c.args.model.now text place in
    let left = length-drop place text in
    let all : take (length text - place) (drop place text) ≡ drop place text = take_all (length text - place) (drop place text) (omega (arith, left)) in
    c.best_of_walk.ensures ∙ ap (best_by key c.args.later.now c.unknown-run.result) (c.fronts.ensures ∙ ap (front t) all) ∙ ap (λ r. best_by key c.args.later.now r (front t (drop place text))) c.unknown-run.ensures

pub returns-clause-some : goal.returns-clause-some
returns-clause-some g c =
    let t = g.T.Fronts.fronts_of c.args.trie.now in
    let text = c.args.text.now in
    let place = c.args.place in
    let key = g.M.CostModel.key_cost c.args.model.now in
    let run = g.M.CostModel.unknown_at c.args.model.now text place in
    let later = c.args.later.now in
    let many : length later ≡ length (drop place text) = c.requires.later ∙ sym (length-drop place text) in
    let some : 0 < length later = (let here = c.requires.some in let left = c.requires.later in omega (arith, here, left)) in
    subst (λ (s : Step). 0 < s.len) (sym (returns-clause-best g c)) (best_is t key run later (drop place text) some many).is.some

pub returns-clause-within : goal.returns-clause-within
returns-clause-within g c =
    let t = g.T.Fronts.fronts_of c.args.trie.now in
    let text = c.args.text.now in
    let place = c.args.place in
    let key = g.M.CostModel.key_cost c.args.model.now in
    let run = g.M.CostModel.unknown_at c.args.model.now text place in
    let later = c.args.later.now in
    let many : length later ≡ length (drop place text) = c.requires.later ∙ sym (length-drop place text) in
    let some : 0 < length later = (let here = c.requires.some in let left = c.requires.later in omega (arith, here, left)) in
    subst (λ (s : Step). s.len ≤ length text - place) (sym (returns-clause-best g c)) (subst (λ n. (best_by key later run (front t (drop place text))).len ≤ n) c.requires.later (best_is t key run later (drop place text) some many).is.within)
