-- Where just the keys that begin longer ones have marks, this stays so after an update.
use Rattle.std.proofs.Common.{◌≡◌, ◌∙◌, ◌++◌, ◌⊎◌, ◌↔◌, inl, inr, ℕ, ◌+◌, ◌<◌, Bool, true, false, ℤ, List, [], ◌∷◌, length, take, drop, Option, Some, None, is_some, ap, arith, refl, subst, sym}
use Rattle.std.proofs.lemmas.Bool.{true≢false}
use Rattle.std.proofs.lemmas.List.{append-nil, length-append, length-take-le, take-append-drop, take_at}
use Rattle.cedar_tree.specs.Tree.{Tree, empty_tree, number_at, put}
use Rattle.cedar_tree.specs.Queries.{IsFront, is_path}
use Rattle.cedar_tree.proofs.EntryLemmas.Built.{is_path_itself, same_path}
use Rattle.cedar_tree.proofs.TreeLemmas.{number_at-empty, number_at-put_other, number_at-put_same}
use Rattle.cedar_bulk.specs.SortedMarks.{IsInnerKey}
use Rattle.cedar_model.specs.Meaning.Marks.{HasMark, IsProperFront, MarksPut}

abbrev IsKept : Tree → List ℕ → Type 0
IsKept t w = is_some (number_at t w) ≡ true

none-some : (v : ℤ) → ◌≡◌ {A = Option ℤ} None (Some v) → ⊥
none-some v h = cc

-- a path is that of the put, or what is there stays
put_or_other : (t : Tree) (o : Bool) (k : List ℕ) (v : ℤ) (w : List ℕ) → (w ≡ k) ⊎ (number_at (put t o k v) w ≡ number_at t w)
put_or_other t o k v w =
    (elim (is_path w k) as (λ b. is_path w k ≡ b → (w ≡ k) ⊎ (number_at (put t o k v) w ≡ number_at t w)) [
      | true ↦ λ e. inl (same_path w k e)
      | false ↦ λ e. inr (number_at-put_other t o k v w (λ same. absurd (true≢false (sym (is_path_itself w) ∙ ap (is_path w) same ∙ e))))
    ]) refl

-- a key that isn't held is a proper front of those that are, and begin with it
goes_on : (t : Tree) (k rest : List ℕ) (v : ℤ) → number_at t k ≡ None → number_at t (k ++ rest) ≡ Some v → IsProperFront k (k ++ rest)
goes_on t k [] v new held = absurd (none-some v (sym new ∙ ap (number_at t) (sym (append-nil k)) ∙ held))
goes_on t k (b ∷ rest) v new held =
    let len : length (k ++ b ∷ rest) ≡ length k + length (b ∷ rest) = length-append k (b ∷ rest) in
    (length k, omega (arith, len), sym (take_at k (b ∷ rest) (length k) refl))

is_longer : (w key : List ℕ) → IsProperFront w key → length w < length key
is_longer w key f =
    let len : length (take f.0 key) ≡ f.0 = length-take-le f.0 key (omega (arith, f.1)) in
    omega (arith, ap length f.2, len, f.1)

front_of : (t : Tree) (w key : List ℕ) → 0 < length w → IsProperFront w key → IsKept t key → IsFront t w
front_of t w key some f held =
    let whole : w ++ drop f.0 key ≡ key = ap (λ (x : List ℕ). x ++ drop f.0 key) f.2 ∙ take-append-drop f.0 key in
    by_number (number_at t key) (ap (number_at t) whole) held
  where
    by_number : (o : Option ℤ) → number_at t (w ++ drop f.0 key) ≡ o → is_some o ≡ true → IsFront t w
    by_number None is h = absurd (true≢false (sym h))
    by_number (Some v) is h = (some, drop f.0 key, v, is)

module _ (t : Tree) (o : Bool) (k : List ℕ) (v : ℤ) (some : 0 < length k) (m m' : Tree) (puts : MarksPut t m m' k) (inner : (w : List ℕ) → HasMark m w ↔ IsInnerKey t w) where
  here : IsKept (put t o k v) k
  here = ap is_some (number_at-put_same t o k v)

  more : (w : List ℕ) → IsKept t w → IsKept (put t o k v) w
  more w h = elim (put_or_other t o k v w) [
    | inl same ↦ subst (IsKept (put t o k v)) (sym same) here
    | inr other ↦ ap is_some other ∙ h
  ]

  more_inner : (w : List ℕ) → IsInnerKey t w → IsInnerKey (put t o k v) w
  more_inner w i = (more w i.0, i.1, i.2, more i.1 i.3)

  -- over a number
  held_before : IsKept t k → (w : List ℕ) → IsKept (put t o k v) w → IsKept t w
  held_before held w h = elim (put_or_other t o k v w) [
    | inl same ↦ subst (IsKept t) (sym same) held
    | inr other ↦ ap is_some (sym other) ∙ h
  ]

  over : IsKept t k → (w : List ℕ) → HasMark m' w ↔ IsInnerKey (put t o k v) w
  over held w = (
    λ h. more_inner w ((inner w).0 ((puts.over held w).0 h)),
    λ i. (puts.over held w).1 ((inner w).1 (held_before held w i.0, i.1, i.2, held_before held i.1 i.3)),
  )

  -- of a new key
  to_inner : number_at t k ≡ None → (w : List ℕ) → HasMark m w ⊎ (IsProperFront w k × IsKept t w) ⊎ ((w ≡ k) × IsFront t k) → IsInnerKey (put t o k v) w
  to_inner new w (inl was) = more_inner w ((inner w).0 was)
  to_inner new w (inr (inl front)) = (more w front.1, k, front.0, here)
  to_inner new w (inr (inr own)) =
      let longer : List ℕ = k ++ own.1.1 in
      subst (IsInnerKey (put t o k v)) (sym own.0) (here, longer, goes_on t k own.1.1 own.1.2 new own.1.3, more longer (ap is_some own.1.3))

  of_inner : (w : List ℕ) → IsInnerKey (put t o k v) w → HasMark m w ⊎ (IsProperFront w k × IsKept t w) ⊎ ((w ≡ k) × IsFront t k)
  of_inner w i = elim (put_or_other t o k v w) [
    | inl same ↦ inr (inr (same, begins same (put_or_other t o k v i.1)))
    | inr other ↦ goes (ap is_some (sym other) ∙ i.0) (put_or_other t o k v i.1)
  ] where
    begins : w ≡ k → (i.1 ≡ k) ⊎ (number_at (put t o k v) i.1 ≡ number_at t i.1) → IsFront t k
    begins same (inl key) = absurd (omega (arith, is_longer w i.1 i.2, ap length same, ap length key))
    begins same (inr kept) = front_of t k i.1 some (subst (λ (x : List ℕ). IsProperFront x i.1) same i.2) (ap is_some (sym kept) ∙ i.3)

    goes : IsKept t w → (i.1 ≡ k) ⊎ (number_at (put t o k v) i.1 ≡ number_at t i.1) → HasMark m w ⊎ (IsProperFront w k × IsKept t w) ⊎ ((w ≡ k) × IsFront t k)
    goes held (inl key) = inr (inl (subst (IsProperFront w) key i.2, held))
    goes held (inr kept) = inl ((inner w).1 (held, i.1, i.2, ap is_some (sym kept) ∙ i.3))

  by_number : (n : Option ℤ) → number_at t k ≡ n → (w : List ℕ) → HasMark m' w ↔ IsInnerKey (put t o k v) w
  by_number None new w = (λ h. to_inner new w ((puts.new new w).0 h), λ i. (puts.new new w).1 (of_inner w i))
  by_number (Some n) held w = over (ap is_some held) w

  pub inner_put : (w : List ℕ) → HasMark m' w ↔ IsInnerKey (put t o k v) w
  inner_put = by_number (number_at t k) refl

-- nothing is marked in an empty tree, and it has no key
pub inner_empty : (w : List ℕ) → HasMark empty_tree w ↔ IsInnerKey empty_tree w
inner_empty w = (
  λ h. absurd (nothing w h),
  λ i. absurd (nothing w i.0),
) where
  nothing : (w : List ℕ) → is_some (number_at empty_tree w) ≡ true → ⊥
  nothing w h = true≢false (sym h ∙ ap is_some (number_at-empty w))
