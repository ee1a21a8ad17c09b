use Rattle.std.proofs.Common.{◌≤◌, ◌<◌, ◌∙◌, ap, length, subst, sym}
use Rattle.cedarwood.specs.Queries.{front}
use Rattle.cedar_words.specs.Steps.{AreWithin, best_of}
use Rattle.cedar_words.specs.declared.costs.Step.{Step}
use Rattle.cedar_words.proofs.StepLemmas.{best_over, fronts_within}
use Rattle.cedar_words.proofs.costs.TrieFirstStep.first_step.Goals as goal

pub cheapest_of-requires-clause-within : goal.cheapest_of-requires-clause-within
cheapest_of-requires-clause-within g c =
    let tree = c.args.self.now.state.tree in
    let rest = c.args.rest.now in
    subst (λ fronts. AreWithin (length c.args.later.now) fronts) (sym c.common_prefix_iter_bytes.ensures.rest)
    (subst (λ n. AreWithin n (front tree rest)) (sym c.requires.later) (fronts_within tree rest))

pub returns-clause-best : goal.returns-clause-best
returns-clause-best g c = c.cheapest_of.ensures ∙ ap (best_of c.args.unknown c.args.later.now) c.common_prefix_iter_bytes.ensures.rest

pub returns-clause-some : goal.returns-clause-some
returns-clause-some g c =
    let tree = c.args.self.now.state.tree in
    let rest = c.args.rest.now in
    let later = c.args.later.now in
    let best = best_over tree c.args.unknown later rest (subst (λ n. 0 < n) (sym c.requires.later) c.requires.some) c.requires.later in
    subst (λ (s : Step). 0 < s.len) (sym (returns-clause-best g c)) best.some

pub returns-clause-within : goal.returns-clause-within
returns-clause-within g c =
    let tree = c.args.self.now.state.tree in
    let rest = c.args.rest.now in
    let later = c.args.later.now in
    let best = best_over tree c.args.unknown later rest (subst (λ n. 0 < n) (sym c.requires.later) c.requires.some) c.requires.later in
    subst (λ (s : Step). s.len ≤ length rest) (sym (returns-clause-best g c)) (subst (λ n. (best_of c.args.unknown later (front tree rest)).len ≤ n) c.requires.later best.within)
