use Rattle.std.proofs.Common.{◌≡◌, ◌<◌, ◌+◌, ◌∙◌, ap, arith, subst, sym, length, ℕ, ℤ, None, Some, Option, IfSome, FitsSigned, option_map, rules, w32}
use Rattle.std.proofs.lemmas.Int.{to_z-of_z}
use Rattle.std.specs.List.{last_or}
use Rattle.cedar_tree.specs.Queries.{front}
use Rattle.cedarwood.specs.Walks.{PrefixWalk}
use Rattle.cedarwood.proofs.CollectLemmas.{all_given}
use Rattle.cedarwood.proofs.LongestLemmas.{front_within}
use Rattle.cedarwood.proofs.trie.Trie.longest_match_bytes.Goals as goal

pub returns-in_err-value-clause-longest : goal.returns-in_err-value-clause-longest
returns-in_err-value-clause-longest g c =
    let ran = c.last.ensures.ran in
    let all = all_given (λ (walk : PrefixWalk). walk.rest) ran.0 c.common_prefix_iter_bytes.result (ran.1.1.0, ran.1.1.1, λ _. (ran.1.0, ran.1.1.2)) in
    let last : c.last.result ≡ last_or None (front c.args.self.now.state.tree c.args.text.now) = ran.2 ∙ ap (last_or None) (all ∙ c.common_prefix_iter_bytes.ensures.rest) in
    c.from_residual.ensures ∙ ap (option_map (λ (found : ℤ × ℕ). (found.0, found.1 + 1))) (sym c.in_err-value.was ∙ last)

pub overflow_add-result : goal.overflow_add-result
overflow_add-result g c =
    let ran = c.last.ensures.ran in
    let all = all_given (λ (walk : PrefixWalk). walk.rest) ran.0 c.common_prefix_iter_bytes.result (ran.1.1.0, ran.1.1.1, λ _. (ran.1.0, ran.1.1.2)) in
    let last : c.last.result ≡ last_or None (front c.args.self.now.state.tree c.args.text.now) = ran.2 ∙ ap (last_or None) (all ∙ c.common_prefix_iter_bytes.ensures.rest) in
    let within : c.in_ok-value.before < length c.args.text.now = subst (λ (o : Option (ℤ × ℕ)). IfSome o (λ found. found.1 < length c.args.text.now)) (sym last ∙ c.in_ok-value.was) (front_within c.args.self.now.state.tree c.args.text.now) in
    omega (arith, within)

pub returns-clause-longest : goal.returns-clause-longest
returns-clause-longest g c =
    let ran = c.last.ensures.ran in
    let all = all_given (λ (walk : PrefixWalk). walk.rest) ran.0 c.common_prefix_iter_bytes.result (ran.1.1.0, ran.1.1.1, λ _. (ran.1.0, ran.1.1.2)) in
    let last : c.last.result ≡ last_or None (front c.args.self.now.state.tree c.args.text.now) = ran.2 ∙ ap (last_or None) (all ∙ c.common_prefix_iter_bytes.ensures.rest) in
    let fits : FitsSigned w32 c.in_ok-value.value = search rules in
    ap (λ (v : ℤ). Some (v, c.in_ok-value.before + 1)) (to_z-of_z w32 c.in_ok-value.value fits)
    ∙ ap (option_map (λ (found : ℤ × ℕ). (found.0, found.1 + 1))) (sym c.in_ok-value.was ∙ last)

pub returns-clause-within : goal.returns-clause-within
returns-clause-within g c =
    let ran = c.last.ensures.ran in
    let all = all_given (λ (walk : PrefixWalk). walk.rest) ran.0 c.common_prefix_iter_bytes.result (ran.1.1.0, ran.1.1.1, λ _. (ran.1.0, ran.1.1.2)) in
    let last : c.last.result ≡ last_or None (front c.args.self.now.state.tree c.args.text.now) = ran.2 ∙ ap (last_or None) (all ∙ c.common_prefix_iter_bytes.ensures.rest) in
    let within : c.in_ok-value.before < length c.args.text.now = subst (λ (o : Option (ℤ × ℕ)). IfSome o (λ found. found.1 < length c.args.text.now)) (sym last ∙ c.in_ok-value.was) (front_within c.args.self.now.state.tree c.args.text.now) in
    (omega arith, omega (arith, within))
