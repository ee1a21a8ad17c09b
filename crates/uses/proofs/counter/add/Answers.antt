use Rattle.std.proofs.Common.{rules, ◌≡◌, ◌∙◌, ℕ, ℤ, OnOk, option_map, ap, subst, w32, FitsSigned}
use Rattle.std.proofs.lemmas.Int.{to_z-of_z}
use Rattle.cedarwood.specs.State.{after_put}
use Rattle.cedarwood.specs.Tree.{number_at}
use Rattle.uses.specs.Counts.{one_more}
use Rattle.uses.proofs.CountLemmas.{found_count}
use Rattle.uses.proofs.counter.add.Goals as goal

pub returns : goal.returns
returns g c =
    let s = c.args.counts.now.state in
    let word = c.args.word.now in
    let count = c.next_count-count.result in
    let fits : FitsSigned w32 count = search rules in
    let same : count ≡ one_more (number_at s.tree word) =
    c.next_count-count.ensures
    ∙ ap (λ o. one_more (option_map (λ (found : ℤ × ℕ). found.0) o)) c.exact_match_search.ensures.answer ∙ ap one_more (found_count s.tree word) in
    subst (λ v. OnOk c.update.result (c.update.new.self.state ≡ after_put s word v)) (to_z-of_z w32 count fits ∙ same) c.update.ensures.updated.ok
