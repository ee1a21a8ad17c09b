-- Updates first and erasures later make the same tree as all changes in their order.
use Rattle.std.specs.Prelude.{◌||◌, nat_eq, Option, Some, None, cond}
use Rattle.std.proofs.Common.{◌≡◌, ℕ, Bool, true, false, ℤ, List, [], ◌∷◌, fold, refl, sym, ◌∙◌, ap, subst}
use Rattle.std.specs.Cmp.Lexicographic.{bytes_decides, pointwise}
use Rattle.std.specs.List.{AllByRecursion}
use Rattle.std.proofs.lemmas.Bool.{true≢false}
use Rattle.cedarwood.specs.State.{State, after_put, after_erase}
use Rattle.cedarwood.specs.Tree.{number_at, put, cut, IsKey, IsSound, IsAscending}
use Rattle.cedarwood.proofs.TreeLemmas.{number_at-put_same, number_at-put_other, number_at-cut_same, number_at-cut_other, is_sound-put, is_sound-cut}
use Rattle.cedarwood.proofs.OrderLemmas.{ascending-put, ascending-cut, one_tree}
use Rattle.cedar_store.specs.Changes.{Change, put_at, erase_at, after_change, all_changed}
use Rattle.cedar_store.specs.Batches.{only_updated, all_updated, is_put_by, late_erased, all_erased_late, HasKey}

-- ---- what is held at one path

module _ (k : List ℕ) where
  abbrev pub by_change : Option ℤ → Change → Option ℤ
  by_change o (put_at key v) = cond (pointwise nat_eq k key) (Some v) o
  by_change o (erase_at key) = cond (pointwise nat_eq k key) None o

  abbrev pub by_update : Option ℤ → Change → Option ℤ
  by_update o (put_at key v) = cond (pointwise nat_eq k key) (Some v) o
  by_update o (erase_at key) = o

  abbrev pub by_late : Option ℤ → Change → List Change → Option ℤ
  by_late o (put_at key v) later = o
  by_late o (erase_at key) later = cond (is_put_by key later) o (cond (pointwise nat_eq k key) None o)

  abbrev pub by_all_late : Option ℤ → List Change → Option ℤ
  by_all_late o [] = o
  by_all_late o (c ∷ changes) = by_all_late (by_late o c changes) changes

  pub overwritten : (changes : List Change) (o p : Option ℤ) → is_put_by k changes ≡ true → fold by_change o changes ≡ fold by_change p changes
  overwritten [] o p put = absurd (true≢false (sym put))
  overwritten (put_at key v ∷ changes) o p put =
      (elim (pointwise nat_eq k key) as (λ b. (b || is_put_by k changes) ≡ true → fold by_change (cond b (Some v) o) changes ≡ fold by_change (cond b (Some v) p) changes) [
        | true ↦ λ _. refl
        | false ↦ λ later. overwritten changes o p later
      ]) put
  overwritten (erase_at key ∷ changes) o p put = overwritten changes (cond (pointwise nat_eq k key) None o) (cond (pointwise nat_eq k key) None p) put

  pub untouched : (changes : List Change) (o : Option ℤ) → is_put_by k changes ≡ false → fold by_update o changes ≡ o
  untouched [] o none_put = refl
  untouched (put_at key v ∷ changes) o none_put =
      (elim (pointwise nat_eq k key) as (λ b. (b || is_put_by k changes) ≡ false → fold by_update (cond b (Some v) o) changes ≡ o) [
        | true ↦ λ e. absurd (true≢false e)
        | false ↦ λ later. untouched changes o later
      ]) none_put
  untouched (erase_at key ∷ changes) o none_put = untouched changes o none_put

  -- an erasure at the path itself
  at_path : (changes : List Change) (o : Option ℤ)
      → ((p : Option ℤ) → by_all_late (fold by_update p changes) changes ≡ fold by_change p changes)
      → by_all_late (cond (is_put_by k changes) (fold by_update o changes) None) changes ≡ fold by_change None changes
  at_path changes o ih =
      (elim (is_put_by k changes) as (λ b. is_put_by k changes ≡ b → by_all_late (cond b (fold by_update o changes) None) changes ≡ fold by_change None changes) [
        | true ↦ λ put. ih o ∙ overwritten changes o None put
        | false ↦ λ none_put. ap (λ p. by_all_late p changes) (sym (untouched changes None none_put)) ∙ ih None
      ]) refl

  same_twice : {X : Type 0} (b : Bool) (x : X) → cond b x x ≡ x
  same_twice true x = refl
  same_twice false x = refl

  at_key : (key : List ℕ) (changes : List Change) (o : Option ℤ)
      → ((p : Option ℤ) → by_all_late (fold by_update p changes) changes ≡ fold by_change p changes)
      → by_all_late (cond (is_put_by key changes) (fold by_update o changes) (cond (pointwise nat_eq k key) None (fold by_update o changes))) changes ≡ fold by_change (cond (pointwise nat_eq k key) None o) changes
  at_key key changes o ih =
      (elim (pointwise nat_eq k key) as (λ b. pointwise nat_eq k key ≡ b → by_all_late (cond (is_put_by key changes) (fold by_update o changes) (cond b None (fold by_update o changes))) changes ≡ fold by_change (cond b None o) changes) [
        | true ↦ λ e.
            ap (λ (l : List ℕ). by_all_late (cond (is_put_by l changes) (fold by_update o changes) None) changes) (sym ((bytes_decides k key).0 e)) ∙ at_path changes o ih
        | false ↦ λ _. ap (λ p. by_all_late p changes) (same_twice (is_put_by key changes) (fold by_update o changes)) ∙ ih o
      ]) refl

  pub one_by_one : (changes : List Change) (o : Option ℤ) → by_all_late (fold by_update o changes) changes ≡ fold by_change o changes
  one_by_one [] o = refl
  one_by_one (put_at key v ∷ changes) o = one_by_one changes (cond (pointwise nat_eq k key) (Some v) o)
  one_by_one (erase_at key ∷ changes) o = at_key key changes o (one_by_one changes)

-- ---- states whose trees are sound and whose labels ascend

pub record IsGood (s : State) : Type 0 where
  pub ordered : s.ordered ≡ true
  pub sound : IsSound s.tree
  pub ascending : IsAscending s.tree.children

good_put : (s : State) (key : List ℕ) (v : ℤ) → IsGood s → IsKey key → IsGood (after_put s key v)
good_put s key v good is = record {
  ordered = good.ordered;
  sound = is_sound-put s.tree s.ordered key v is good.sound;
  ascending = subst (λ b. IsAscending (put s.tree b key v).children) (sym good.ordered) (ascending-put s.tree key v good.ascending);
}

good_cut : (s : State) (key : List ℕ) → IsGood s → IsGood (after_erase s key)
good_cut s key good = record {
  ordered = good.ordered;
  sound = is_sound-cut s.tree key good.sound;
  ascending = ascending-cut s.tree key good.ascending;
}

good_changed : (s : State) (c : Change) → IsGood s → HasKey c → IsGood (after_change s c)
good_changed s (put_at key v) good is = good_put s key v good is
good_changed s (erase_at key) good is = good_cut s key good

good_updated : (s : State) (c : Change) → IsGood s → HasKey c → IsGood (only_updated s c)
good_updated s (put_at key v) good is = good_put s key v good is
good_updated s (erase_at key) good is = good

good_late : (s : State) (c : Change) (later : List Change) → IsGood s → IsGood (late_erased s c later)
good_late s (put_at key v) later good = good
good_late s (erase_at key) later good =
    elim (is_put_by key later) as (λ b. IsGood (cond b s (after_erase s key))) [ true ↦ good | false ↦ good_cut s key good ]

-- ---- what such a state holds at a path

held_put : (s : State) (key : List ℕ) (v : ℤ) (k : List ℕ) → number_at (after_put s key v).tree k ≡ cond (pointwise nat_eq k key) (Some v) (number_at s.tree k)
held_put s key v k =
    (elim (pointwise nat_eq k key) as (λ b. pointwise nat_eq k key ≡ b → number_at (put s.tree s.ordered key v) k ≡ cond b (Some v) (number_at s.tree k)) [
      | true ↦ λ e. ap (λ q. number_at (put s.tree s.ordered key v) q) ((bytes_decides k key).0 e) ∙ number_at-put_same s.tree s.ordered key v
      | false ↦ λ e. number_at-put_other s.tree s.ordered key v k (λ same. absurd (true≢false (sym ((bytes_decides k key).1 same) ∙ e)))
    ]) refl

held_cut : (s : State) (key : List ℕ) (k : List ℕ) → IsGood s → number_at (after_erase s key).tree k ≡ cond (pointwise nat_eq k key) None (number_at s.tree k)
held_cut s key k good =
    (elim (pointwise nat_eq k key) as (λ b. pointwise nat_eq k key ≡ b → number_at (cut s.tree key) k ≡ cond b None (number_at s.tree k)) [
      | true ↦ λ e. ap (λ q. number_at (cut s.tree key) q) ((bytes_decides k key).0 e) ∙ number_at-cut_same s.tree key good.sound.1
      | false ↦ λ e. number_at-cut_other s.tree key k good.sound.1 (λ same. absurd (true≢false (sym ((bytes_decides k key).1 same) ∙ e)))
    ]) refl

held_changed : (s : State) (c : Change) (k : List ℕ) → IsGood s → number_at (after_change s c).tree k ≡ by_change k (number_at s.tree k) c
held_changed s (put_at key v) k good = held_put s key v k
held_changed s (erase_at key) k good = held_cut s key k good

held_updated : (s : State) (c : Change) (k : List ℕ) → number_at (only_updated s c).tree k ≡ by_update k (number_at s.tree k) c
held_updated s (put_at key v) k = held_put s key v k
held_updated s (erase_at key) k = refl

held_late : (s : State) (c : Change) (later : List Change) (k : List ℕ) → IsGood s → number_at (late_erased s c later).tree k ≡ by_late k (number_at s.tree k) c later
held_late s (put_at key v) later k good = refl
held_late s (erase_at key) later k good =
    elim (is_put_by key later) as (λ b. number_at (cond b s (after_erase s key)).tree k ≡ cond b (number_at s.tree k) (cond (pointwise nat_eq k key) None (number_at s.tree k))) [
      | true ↦ refl
      | false ↦ held_cut s key k good
    ]

-- ---- and after many changes

good_all_changed : (changes : List Change) (s : State) → IsGood s → AllByRecursion HasKey changes → IsGood (all_changed s changes)
good_all_changed [] s good keys = good
good_all_changed (c ∷ changes) s good keys = good_all_changed changes (after_change s c) (good_changed s c good keys.0) keys.1

pub good_all_updated : (changes : List Change) (s : State) → IsGood s → AllByRecursion HasKey changes → IsGood (all_updated s changes)
good_all_updated [] s good keys = good
good_all_updated (c ∷ changes) s good keys = good_all_updated changes (only_updated s c) (good_updated s c good keys.0) keys.1

good_all_late : (changes : List Change) (s : State) → IsGood s → IsGood (all_erased_late s changes)
good_all_late [] s good = good
good_all_late (c ∷ changes) s good = good_all_late changes (late_erased s c changes) (good_late s c changes good)

held_all_changed : (k : List ℕ) (changes : List Change) (s : State) → IsGood s → AllByRecursion HasKey changes → number_at (all_changed s changes).tree k ≡ fold (by_change k) (number_at s.tree k) changes
held_all_changed k [] s good keys = refl
held_all_changed k (c ∷ changes) s good keys =
    held_all_changed k changes (after_change s c) (good_changed s c good keys.0) keys.1 ∙ ap (λ o. fold (by_change k) o changes) (held_changed s c k good)

held_all_updated : (k : List ℕ) (changes : List Change) (s : State) → number_at (all_updated s changes).tree k ≡ fold (by_update k) (number_at s.tree k) changes
held_all_updated k [] s = refl
held_all_updated k (c ∷ changes) s = held_all_updated k changes (only_updated s c) ∙ ap (λ o. fold (by_update k) o changes) (held_updated s c k)

held_all_late : (k : List ℕ) (changes : List Change) (s : State) → IsGood s → number_at (all_erased_late s changes).tree k ≡ by_all_late k (number_at s.tree k) changes
held_all_late k [] s good = refl
held_all_late k (c ∷ changes) s good =
    held_all_late k changes (late_erased s c changes) (good_late s c changes good) ∙ ap (λ o. by_all_late k o changes) (held_late s c changes k good)

same_state : (s t : State) → s.tree ≡ t.tree → s.ordered ≡ t.ordered → s ≡ t
same_state s t tree ordered = λ i. record { tree = tree i; ordered = ordered i }

-- all updates, and then the erasures of keys that aren't put later, leave what all changes leave one after another
pub arranged : (changes : List Change) (s : State) → IsGood s → AllByRecursion HasKey changes → all_erased_late (all_updated s changes) changes ≡ all_changed s changes
arranged changes s good keys =
    let updated = good_all_updated changes s good keys in
    let late = good_all_late changes (all_updated s changes) updated in
    let all = good_all_changed changes s good keys in
    same_state (all_erased_late (all_updated s changes) changes) (all_changed s changes)
    (one_tree (all_erased_late (all_updated s changes) changes).tree (all_changed s changes).tree late.sound all.sound late.ascending all.ascending
    (λ k.
    held_all_late k changes (all_updated s changes) updated
    ∙ ap (λ o. by_all_late k o changes) (held_all_updated k changes s)
    ∙ one_by_one k changes (number_at s.tree k)
    ∙ sym (held_all_changed k changes s good keys)))
    (late.ordered ∙ sym all.ordered)
