-- A word that comes once more.
use Rattle.std.proofs.Common.{◌≡◌, ℕ, suc, ◌+◌, ◌<◌, Bool, true, false, List, length, take, get_or, Option, Some, None, option_map, refl, sym, ap, subst, ◌∙◌, arith}
use Rattle.std.specs.Borrow.{Bor}
use Rattle.std.specs.List.{count_by}
use Rattle.std.specs.Prelude.{ℤ}
use Rattle.std.specs.Str.{bytes_eq}
use Rattle.std.proofs.lemmas.Bool.{true≢false}
use Rattle.std.proofs.lemmas.List.Sums.{count_by_more_no, count_by_more_yes}
use Rattle.std.proofs.lemmas.Slice.Eq.{bytes_eq-Decides}
use Rattle.cedarwood.specs.Tree.{Tree, empty_tree, number_at, put}
use Rattle.cedarwood.specs.Queries.{exact}
use Rattle.cedarwood.proofs.TreeLemmas.{number_at-empty, number_at-put_other, number_at-put_same}
use Rattle.uses.specs.Counts.{count_of, one_more, times}

-- where the first words are counted, so are these and the next one once it is stored with one more
pub counted_more : (t : Tree) (ordered : Bool) (words : List (Bor (List ℕ))) (i : ℕ) (d : Bor (List ℕ)) → i < length words
    → ((w : List ℕ) → number_at t w ≡ count_of w (take i words)) → (w : List ℕ)
    → number_at (put t ordered (get_or words i d).now (one_more (number_at t (get_or words i d).now))) w ≡ count_of w (take (i + 1) words)
counted_more t ordered words i d here so_far w =
    let k : List ℕ = (get_or words i d).now in
    let v : ℤ = one_more (number_at t k) in
    let test : Bor (List ℕ) → Bool = λ x. bytes_eq x.now w in
    (elim (bytes_eq k w) as (λ b. bytes_eq k w ≡ b → number_at (put t ordered k v) w ≡ count_of w (take (i + 1) words)) [
      | true ↦ λ is.
          let same : k ≡ w = (bytes_eq-Decides k w).0 is in
          let more : count_by test (take (i + 1) words) ≡ suc (count_by test (take i words)) = omega (arith, count_by_more_yes test words i d here is) in
          subst (λ q. number_at (put t ordered k v) q ≡ Some (one_more (number_at t q))) same (number_at-put_same t ordered k v)
          ∙ ap (λ o. Some (one_more o)) (so_far w) ∙ ap times (sym more)
      | false ↦ λ is.
          number_at-put_other t ordered k v w (λ same. true≢false (sym ((bytes_eq-Decides k w).1 (sym same)) ∙ is))
          ∙ so_far w ∙ ap times (sym (count_by_more_no test words i d here is))
    ]) refl

-- no word is counted yet
pub nothing_counted : (t : Tree) (w : List ℕ) → t ≡ empty_tree → ◌≡◌ {A = Option ℤ} (number_at t w) None
nothing_counted t w empty = ap (λ x. number_at x w) empty ∙ number_at-empty w

-- what a search says of a word's count
pub found_count : (t : Tree) (w : List ℕ) → option_map (λ (found : ℤ × ℕ). found.0) (exact t w) ≡ number_at t w
found_count t w = of (number_at t w)
  where
    of : (o : Option ℤ) → option_map (λ (found : ℤ × ℕ). found.0) (option_map (λ v. (v, length w)) o) ≡ o
    of None = refl
    of (Some v) = refl
