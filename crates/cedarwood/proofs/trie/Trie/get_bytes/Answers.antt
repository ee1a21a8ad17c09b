use Rattle.std.proofs.Common.{rules, ◌≡◌, ◌∙◌, ℕ, ℤ, Option, Some, None, option_map, ap, refl, sym, length, w32, FitsSigned}
use Rattle.std.proofs.lemmas.Int.{to_z-of_z}
use Rattle.cedar_tree.specs.Tree.{number_at}
use Rattle.cedarwood.proofs.trie.Trie.get_bytes.Goals as goal

-- of a number and a length, the number
number_alone : (n : ℕ) (o : Option ℤ) → option_map (λ (found : ℤ × ℕ). found.0) (option_map (λ (v : ℤ). (v, n)) o) ≡ o
number_alone n None = refl
number_alone n (Some v) = refl

pub returns : goal.returns
returns g c =
    let fits : FitsSigned w32 c.in_ok-value.value = search rules in
    let was : c.exact_match_search_bytes.result ≡ Some (c.in_ok-value.value, c.in_ok-value.field-0-1) = c.in_ok-value.was in
    ap (λ (v : ℤ). Some v) (to_z-of_z w32 c.in_ok-value.value fits)
    ∙ ap (option_map (λ (found : ℤ × ℕ). found.0)) (sym was ∙ c.exact_match_search_bytes.ensures.answer)
    ∙ number_alone (length c.args.key.now) (number_at c.args.self.now.state.tree c.args.key.now)
