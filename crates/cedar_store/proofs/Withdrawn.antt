-- The updates of a batch, made one after another and taken back.
use Rattle.std.specs.Prelude.{Option, None, nat_eq}
use Rattle.std.specs.List.{AllByRecursion}
use Rattle.std.proofs.Common.{◌≡◌, inl, inr, true, ℕ, ◌+◌, ◌≤◌, ◌<◌, ℤ, List, [], ◌∷◌, length, pos, take, get_or, set, refl, sym, ◌∙◌, ap, subst, arith}
use Rattle.std.proofs.lemmas.Bool.{cases_eq, eqb-true}
use Rattle.std.proofs.lemmas.List.{get_or-map, get_or-take, length-map, get_or-set_other, get_or-set_same, length-take-le, take-take, take_all, take_more}
use Rattle.std.proofs.lemmas.List.Sums.{fold-append}
use Rattle.cedarwood.specs.State.{State}
use Rattle.cedar_store.specs.Batches.{AreHeld, IsHeld, change_at, only_updated, all_updated}
use Rattle.cedar_store.specs.Changes.{Change, erase_at}
use Rattle.cedar_store.specs.Told.{change_told, changes_told}
use Rattle.cedar_store.specs.declared.change.Change.{Change as ToldChange}
use Rattle.cedar_store.specs.declared.change.Change.TheVariants as told
use Rattle.cedarwood.proofs.GeneralLemmas.{all_and_one}

-- what follows the changes that are given
abbrev pub blank : ToldChange
blank = told.Update (record { ref_ptr = (0, 0); now = [] }) (pos 0)

-- a change that is given is at its position
pub told_at : (changes : List ToldChange) (i : ℕ) → i < length changes → change_at (changes_told changes) i ≡ change_told (get_or changes i blank)
told_at changes i low = get_or-map change_told changes i blank (erase_at []) low

pub as_many : (changes : List ToldChange) → length (changes_told changes) ≡ length changes
as_many changes = length-map changes change_told

pub nothing_told : (changes : List ToldChange) → nat_eq (length changes) 0 ≡ true → changes_told changes ≡ []
nothing_told [] none_there = refl
nothing_told (c ∷ changes) none_there = let none_left = eqb-true (length (c ∷ changes)) 0 none_there in absurd (omega (arith, none_left))

pub no_changes : (changes : List ToldChange) → nat_eq (length changes) 0 ≡ true → changes ≡ []
no_changes [] none_there = refl
no_changes (c ∷ changes) none_there = let none_left = eqb-true (length (c ∷ changes)) 0 none_there in absurd (omega (arith, none_left))

-- one update more
pub updated_more : (s : State) (changes : List Change) (n : ℕ) → n < length changes
    → all_updated s (take (n + 1) changes) ≡ only_updated (all_updated s (take n changes)) (change_at changes n)
updated_more s changes n low = ap (all_updated s) (take_more changes n (erase_at []) low) ∙ fold-append only_updated s (take n changes) (change_at changes n ∷ [])

pub all_more : (P : Change → Type 0) (changes : List Change) (n : ℕ) → n < length changes → AllByRecursion P (take n changes) → P (change_at changes n)
    → AllByRecursion P (take (n + 1) changes)
all_more P changes n low all p = subst (AllByRecursion P) (sym (take_more changes n (erase_at []) low)) (all_and_one P (take n changes) (change_at changes n) all p)

pub all_done : (P : Change → Type 0) (changes : List Change) (n : ℕ) → length changes ≤ n → AllByRecursion P (take n changes) → AllByRecursion P changes
all_done P changes n high all = subst (AllByRecursion P) (take_all n changes high) all

pub updated_all : (s t : State) (changes : List Change) (n : ℕ) → length changes ≤ n → t ≡ all_updated s (take n changes) → t ≡ all_updated s changes
updated_all s t changes n high is = is ∙ ap (all_updated s) (take_all n changes high)

-- what the keys of the first n changes held is noted
abbrev pub AreNoted : State → List Change → ℕ → List (Option ℤ) → Type 0
AreNoted s changes n held = (i : ℕ) → i < n → IsHeld (all_updated s (take i changes)) (change_at changes i) (get_or held i None)

pub none_noted : (s : State) (changes : List Change) (held : List (Option ℤ)) → AreNoted s changes 0 held
none_noted s changes held = λ i low. absurd (omega (arith, low))

pub noted_more : (s : State) (changes : List Change) (n : ℕ) (held : List (Option ℤ)) (h : Option ℤ) → n < length held → AreNoted s changes n held
    → IsHeld (all_updated s (take n changes)) (change_at changes n) h → AreNoted s changes (n + 1) (set held n h)
noted_more s changes n held h within noted last = λ i low. elim (cases_eq i n) [
  | inl same ↦
      subst (λ j. IsHeld (all_updated s (take j changes)) (change_at changes j) (get_or (set held n h) j None)) (sym same)
      (subst (λ o. IsHeld (all_updated s (take n changes)) (change_at changes n) o) (sym (get_or-set_same held n h None within)) last)
  | inr apart ↦
      subst (λ o. IsHeld (all_updated s (take i changes)) (change_at changes i) o) (sym (get_or-set_other held n i h None apart)) (noted i (omega (arith, low, apart)))
]

-- of the first n changes alone
pub first_held : (s : State) (changes : List Change) (n : ℕ) (held : List (Option ℤ)) → n ≤ length changes → AreNoted s changes n held → AreHeld s (take n changes) held
first_held s changes n held low noted = λ i within.
    let before : i < n = omega (arith, within, length-take-le n changes low) in
    subst (λ l. IsHeld (all_updated s l) (change_at (take n changes) i) (get_or held i None)) (sym (take-take i n changes (omega (arith, before))))
    (subst (λ c. IsHeld (all_updated s (take i changes)) c (get_or held i None)) (sym (get_or-take n changes i (erase_at []) before)) (noted i before))

pub all_held : (s : State) (changes : List Change) (n : ℕ) (held : List (Option ℤ)) → length changes ≤ n → AreNoted s changes n held → AreHeld s changes held
all_held s changes n held high noted = λ i within. noted i (omega (arith, within, high))

-- the state after n changes is that after the n-th, made behind those before it
pub before_last : (s t : State) (changes : List Change) (m n : ℕ) → m ≡ n + 1 → n < length changes → t ≡ all_updated s (take m changes)
    → t ≡ only_updated (all_updated s (take n changes)) (change_at changes n)
before_last s t changes m n next low is = is ∙ ap (λ k. all_updated s (take k changes)) next ∙ updated_more s changes n low
