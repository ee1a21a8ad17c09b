-- Entries from a path on that come before another one.
use Rattle.std.proofs.Common.{◌≡◌, ◌≢◌, ℕ, ◌<◌, ◌≤◌, Less, Equal, Greater, Ordering, Bool, true, false, cond, List, [], ◌∷◌, length, refl, sym, ap, ◌∙◌, arith}
use Rattle.std.specs.List.{filter}
use Rattle.std.specs.Cmp.Lexicographic.{slice_cmp}
use Rattle.std.specs.Ordering.{is_ge, is_lt, nat_cmp, ordering_reverse}
use Rattle.std.proofs.lemmas.Bool.{true≢false}
use Rattle.std.proofs.lemmas.Cmp.{nat_list_cmp_total}

fewer_pass : {X : Type 0} (p : X → Bool) (xs : List X) → length (filter p xs) ≤ length xs
fewer_pass p [] = omega arith
fewer_pass p (x ∷ xs) = elim (p x) as (λ b. length (cond b (x ∷ filter p xs) (filter p xs)) ≤ length (x ∷ xs)) [
  | true ↦ let h = fewer_pass p xs in omega (arith, h)
  | false ↦ let h = fewer_pass p xs in omega (arith, h)
]

-- where all pass a test, none passes the opposite one
pub none_passes : {X : Type 0} (p q : X → Bool) → ((x : X) → p x ≡ true → q x ≡ false) → (xs : List X) → length xs ≤ length (filter p xs) → filter q xs ≡ []
none_passes p q opposite [] h = refl
none_passes p q opposite (x ∷ xs) h =
    (elim (p x) as (λ b. p x ≡ b → length (x ∷ xs) ≤ length (cond b (x ∷ filter p xs) (filter p xs)) → cond (q x) (x ∷ filter q xs) (filter q xs) ≡ []) [
      | true ↦ λ e more. ap (λ b. cond b (x ∷ filter q xs) (filter q xs)) (opposite x e) ∙ none_passes p q opposite xs (omega (arith, more))
      | false ↦ λ e more. let few = fewer_pass p xs in absurd (omega (arith, more, few))
    ]) refl h

pub stricter : {X : Type 0} (p q : X → Bool) → ((x : X) → p x ≡ true → q x ≡ true) → (xs : List X) → filter p (filter q xs) ≡ filter p xs
stricter p q more [] = refl
stricter p q more (x ∷ xs) =
    (elim (q x) as (λ b. q x ≡ b → filter p (cond b (x ∷ filter q xs) (filter q xs)) ≡ cond (p x) (x ∷ filter p xs) (filter p xs)) [
      | true ↦ λ e. ap (λ r. cond (p x) (x ∷ r) r) (stricter p q more xs)
      | false ↦ λ e. stricter p q more xs ∙ sym (ap (λ b. cond b (x ∷ filter p xs) (filter p xs)) (fails (p x) refl e))
    ]) refl
  where
    fails : (b : Bool) → p x ≡ b → q x ≡ false → p x ≡ false
    fails true e f = absurd (true≢false (sym (more x e) ∙ f))
    fails false e f = e

pub both_fail : {X : Type 0} (p q : X → Bool) → ((x : X) → q x ≡ true → p x ≡ false) → (xs : List X) → filter p (filter q xs) ≡ []
both_fail p q never [] = refl
both_fail p q never (x ∷ xs) =
    (elim (q x) as (λ b. q x ≡ b → filter p (cond b (x ∷ filter q xs) (filter q xs)) ≡ []) [
      | true ↦ λ e. ap (λ b. cond b (x ∷ filter p (filter q xs)) (filter p (filter q xs))) (never x e) ∙ both_fail p q never xs
      | false ↦ λ e. both_fail p q never xs
    ]) refl

-- ---- the order of paths

pub opposite : (o : Ordering) → is_ge o ≡ true → is_lt o ≡ false
opposite Less e = absurd (true≢false (sym e))
opposite Equal e = refl
opposite Greater e = refl

pub lower : (o : Ordering) → is_ge o ≡ false → is_lt o ≡ true
lower Less e = refl
lower Equal e = absurd (true≢false e)
lower Greater e = absurd (true≢false e)

-- a path at the upper bound or after it is after the lower one
pub after_both : (e from to : List ℕ) → slice_cmp nat_cmp from to ≡ Less → is_ge (slice_cmp nat_cmp e to) ≡ true → is_ge (slice_cmp nat_cmp e from) ≡ true
after_both e from to up h = by_case (slice_cmp nat_cmp e from) refl
  where
    by_case : (o : Ordering) → slice_cmp nat_cmp e from ≡ o → is_ge (slice_cmp nat_cmp e from) ≡ true
    by_case Less is = absurd (true≢false (sym h ∙ ap is_ge (nat_list_cmp_total.trans e from to is up)))
    by_case Equal is = ap is_ge is
    by_case Greater is = ap is_ge is

-- where the bounds are turned round, no path lies between
pub between_none : (e from to : List ℕ) → is_lt (slice_cmp nat_cmp from to) ≡ false → is_ge (slice_cmp nat_cmp e from) ≡ true → is_lt (slice_cmp nat_cmp e to) ≡ false
between_none e from to turned h = by_case (slice_cmp nat_cmp e to) refl (slice_cmp nat_cmp from to) refl
  where
    by_case : (o : Ordering) → slice_cmp nat_cmp e to ≡ o → (b : Ordering) → slice_cmp nat_cmp from to ≡ b → is_lt (slice_cmp nat_cmp e to) ≡ false
    by_case Equal is b bounds = ap is_lt is
    by_case Greater is b bounds = ap is_lt is
    by_case Less is Less bounds = absurd (true≢false (sym (ap is_lt bounds) ∙ turned))
    by_case Less is Equal bounds =
        let same : slice_cmp nat_cmp e from ≡ Less =
        nat_list_cmp_total.antisymm e from ∙ ap ordering_reverse (nat_list_cmp_total.congr from to e bounds) ∙ sym (nat_list_cmp_total.antisymm e to) ∙ is in
        absurd (true≢false (sym h ∙ ap is_ge same))
    by_case Less is Greater bounds =
        let under : slice_cmp nat_cmp to from ≡ Less = nat_list_cmp_total.antisymm to from ∙ ap ordering_reverse bounds in
        absurd (true≢false (sym h ∙ ap is_ge (nat_list_cmp_total.trans e to from is under)))
