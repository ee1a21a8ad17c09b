use Rattle.std.proofs.lemmas.Grind.{common_steps}
use Rattle.std.proofs.Common.{◌≡◌, ◌<◌, ◌∙◌, ap, subst, sym, length, ℕ, ℤ, None, Option, IfSome, arith}
use Rattle.std.specs.List.{last_or}
use Rattle.cedarwood.specs.Walks.{PrefixWalk}
use Rattle.cedarwood.proofs.CollectLemmas.{all_given}
use Rattle.cedar_words.specs.Words.{longest}
use Rattle.cedar_words.proofs.LongestLemmas.{longest_within}
use Rattle.cedar_words.proofs.longest.TrieLongestPrefix.longest_prefix.Goals as goal

pub returns-clause-answer : goal.returns-clause-answer
returns-clause-answer g c =
    let ran = c.last.ensures.ran in
    let all = all_given (λ (walk : PrefixWalk). walk.rest) ran.0 c.common_prefix_iter_bytes.result (ran.1.1.0, ran.1.1.1, λ _. (ran.1.0, ran.1.1.2)) in
    ran.2 ∙ ap (last_or None) (all ∙ c.common_prefix_iter_bytes.ensures.rest)

pub returns-clause-within : goal.returns-clause-within
returns-clause-within g c =
    let answer : c.last.result ≡ longest c.args.self.now.state.tree c.args.text.now = returns-clause-answer g c in
    subst (λ (o : Option (ℤ × ℕ)). IfSome o (λ found. found.1 < length c.args.text.now)) (sym answer) (longest_within c.args.self.now.state.tree c.args.text.now)

pub last-requires-clause-can : goal.last-requires-clause-can
last-requires-clause-can g c = grind (arith, common_steps)

pub last-requires-clause-finite : goal.last-requires-clause-finite
last-requires-clause-finite g c = grind (arith, common_steps)
