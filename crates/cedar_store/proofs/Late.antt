-- The erasures of a batch that waited for its updates.
use Rattle.std.specs.Prelude.{◌||◌, Bool, true, false}
use Rattle.std.proofs.Common.{◌≡◌, inl, inr, ℕ, suc, zero, ◌+◌, ◌-◌, ◌≤◌, ◌<◌, List, [], ◌∷◌, length, drop, sym, ◌∙◌, ap, arith}
use Rattle.std.proofs.lemmas.Bool.{true≢false, cases_Bool, or_from}
use Rattle.std.proofs.lemmas.List.{drop-drop, drop_all, drop_more}
use Rattle.cedarwood.specs.State.{State}
use Rattle.cedar_store.specs.Batches.{all_erased_late, change_at, is_put_by, late_erased, puts}
use Rattle.cedar_store.specs.Changes.{Change, erase_at}

or_later : (a b : Bool) → (a || b) ≡ false → b ≡ false
or_later true b e = absurd (true≢false e)
or_later false b e = e

module _ (path : List ℕ) where
  put_by-drop : (n : ℕ) (xs : List Change) → is_put_by path xs ≡ false → is_put_by path (drop n xs) ≡ false
  put_by-drop zero xs lacks = lacks
  put_by-drop (suc n) [] lacks = lacks
  put_by-drop (suc n) (x ∷ xs) lacks = put_by-drop n xs (or_later (puts path x) (is_put_by path xs) lacks)

  -- behind the last update nothing is put
  pub none_from : (changes : List Change) (end n : ℕ) → is_put_by path (drop end changes) ≡ false → end ≤ n → is_put_by path (drop n changes) ≡ false
  none_from changes end n lacks high =
      let same : drop n changes ≡ drop (n - end) (drop end changes) = ap (λ (k : ℕ). drop k changes) (omega (arith, high)) ∙ sym (drop-drop (n - end) end changes) in
      ap (is_put_by path) same ∙ put_by-drop (n - end) (drop end changes) lacks

  pub one_less : (changes : List Change) (n : ℕ) → n < length changes → puts path (change_at changes n) ≡ false → is_put_by path (drop (n + 1) changes) ≡ false
      → is_put_by path (drop n changes) ≡ false
  one_less changes n low here later =
      ap (is_put_by path) (drop_more changes n (erase_at []) low) ∙ or_from (puts path (change_at changes n)) (is_put_by path (drop (n + 1) changes)) here later

  pub none_behind : (changes : List Change) (n : ℕ) → length changes ≤ n → is_put_by path (drop n changes) ≡ false
  none_behind changes n high = ap (is_put_by path) (drop_all n changes high)

-- ---- one change after another

pub late_more : (s : State) (changes : List Change) (n : ℕ) → n < length changes
    → all_erased_late (late_erased s (change_at changes n) (drop (n + 1) changes)) (drop (n + 1) changes) ≡ all_erased_late s (drop n changes)
late_more s changes n low = ap (all_erased_late s) (sym (drop_more changes n (erase_at []) low))

pub late_done : (s : State) (changes : List Change) (n : ℕ) → length changes ≤ n → all_erased_late s (drop n changes) ≡ s
late_done s changes n high = ap (all_erased_late s) (drop_all n changes high)

-- what is put from a position on, looked for one change after another
pub put_here : (path : List ℕ) (changes : List Change) (n : ℕ) → n < length changes → puts path (change_at changes n) ≡ true → is_put_by path (drop n changes) ≡ true
put_here path changes n low here = ap (is_put_by path) (drop_more changes n (erase_at []) low) ∙ ap (λ t. t || is_put_by path (drop (n + 1) changes)) here

pub put_later : (path : List ℕ) (changes : List Change) (n : ℕ) → n < length changes → puts path (change_at changes n) ≡ false
    → is_put_by path (drop (n + 1) changes) ≡ is_put_by path (drop n changes)
put_later path changes n low here = sym (ap (is_put_by path) (drop_more changes n (erase_at []) low) ∙ ap (λ t. t || is_put_by path (drop (n + 1) changes)) here)

-- a change that puts a value at a path is one of those from any earlier position on
pub put_from : (path : List ℕ) (changes : List Change) (next n : ℕ) → next ≤ n → n < length changes → puts path (change_at changes n) ≡ true
    → is_put_by path (drop next changes) ≡ true
put_from path changes next n early low here = elim (cases_Bool (is_put_by path (drop next changes))) [
  | inl put ↦ put
  | inr lacks ↦ absurd (true≢false (sym (put_here path changes n low here) ∙ none_from path changes next n lacks early))
]
