-- What the entries of ranges are among all entries.
use Rattle.std.proofs.Common.{◌≡◌, ◌∙◌, Less, Equal, Greater, Ordering, Bool, true, false, cond, ℕ, List, [], ◌∷◌, ◌++◌, map, inl, inr, refl, sym, ap, subst}
use Rattle.std.specs.List.{AllByRecursion, Contains, filter}
use Rattle.std.specs.List.Sorted.{IsStrictlySortedBy}
use Rattle.std.specs.Cmp.Lexicographic.{slice_cmp}
use Rattle.std.specs.Ordering.{is_ge, is_lt, nat_cmp}
use Rattle.std.proofs.lemmas.Bool.{true≢false}
use Rattle.std.proofs.lemmas.Cmp.{nat_list_cmp_total}
use Rattle.cedar_tree.specs.Queries.{Entry}
use Rattle.cedar_tree.proofs.MemberLemmas.{contains_first_or_later, contains_none}

-- what is among those that pass a test passes it
pub passes : {X : Type 0} (p : X → Bool) (xs : List X) (x : X) → Contains (filter p xs) x → p x ≡ true
passes p [] x h = absurd (contains_none x h)
passes p (y ∷ ys) x h =
    (elim (p y) as (λ b. p y ≡ b → Contains (cond b (y ∷ filter p ys) (filter p ys)) x → p x ≡ true) [
      | true ↦ λ is among. elim (contains_first_or_later y (filter p ys) x among) [
        | inl same ↦ subst (λ z. p z ≡ true) same is
        | inr later ↦ passes p ys x later
      ]
      | false ↦ λ is among. passes p ys x among
    ]) refl h

-- ---- a list in ascending order, at a path

abbrev before : List ℕ → Entry → Bool
before q e = is_lt (slice_cmp nat_cmp e.0 q)

abbrev since : List ℕ → Entry → Bool
since q e = is_ge (slice_cmp nat_cmp e.0 q)

not_lower : (p w q : List ℕ) → slice_cmp nat_cmp p w ≡ Less → is_ge (slice_cmp nat_cmp p q) ≡ true → is_lt (slice_cmp nat_cmp w q) ≡ false
not_lower p w q less h = by_case (slice_cmp nat_cmp w q) refl
  where
    by_case : (o : Ordering) → slice_cmp nat_cmp w q ≡ o → is_lt (slice_cmp nat_cmp w q) ≡ false
    by_case Less is = absurd (true≢false (sym h ∙ ap is_ge (nat_list_cmp_total.trans p w q less is)))
    by_case Equal is = ap is_lt is
    by_case Greater is = ap is_lt is

none_before : (p q : List ℕ) → is_ge (slice_cmp nat_cmp p q) ≡ true → (es : List Entry) → AllByRecursion (λ w. slice_cmp nat_cmp p w ≡ Less) (map (λ e. e.0) es) → filter (before q) es ≡ []
none_before p q h [] a = refl
none_before p q h (e ∷ es) a =
    ap (λ b. cond b (e ∷ filter (before q) es) (filter (before q) es)) (not_lower p e.0 q a.0 h) ∙ none_before p q h es a.1

module _ (q : List ℕ) (e : Entry) (es : List Entry) (above : AllByRecursion (λ w. slice_cmp nat_cmp e.0 w ≡ Less) (map (λ x. x.0) es)) (later : filter (before q) es ++ filter (since q) es ≡ es) where
  higher : is_ge (slice_cmp nat_cmp e.0 q) ≡ true → filter (before q) es ++ e ∷ filter (since q) es ≡ e ∷ es
  higher h =
      let none : filter (before q) es ≡ [] = none_before e.0 q h es above in
      let all : filter (since q) es ≡ es = ap (λ (xs : List Entry). xs ++ filter (since q) es) (sym none) ∙ later in
      ap (λ (xs : List Entry). xs ++ e ∷ filter (since q) es) none ∙ ap (λ (xs : List Entry). e ∷ xs) all

  split_first : (o : Ordering) → slice_cmp nat_cmp e.0 q ≡ o
      → cond (is_lt o) (e ∷ filter (before q) es) (filter (before q) es) ++ cond (is_ge o) (e ∷ filter (since q) es) (filter (since q) es) ≡ e ∷ es
  split_first Less is = ap (λ (xs : List Entry). e ∷ xs) later
  split_first Equal is = higher (ap is_ge is)
  split_first Greater is = higher (ap is_ge is)

-- those before the path come first
pub split_at : (q : List ℕ) (es : List Entry) → IsStrictlySortedBy (slice_cmp nat_cmp) (map (λ e. e.0) es) → filter (before q) es ++ filter (since q) es ≡ es
unfolding IsStrictlySortedBy
split_at q [] s = refl
split_at q (e ∷ es) s = split_first q e es s.0 (split_at q es s.1) (slice_cmp nat_cmp e.0 q) refl
