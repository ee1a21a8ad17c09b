-- What is kept of the best steps by a model: how many bytes each goes over, and the number of its key if it is one.
use Rattle.std.proofs.Common.{◌≡◌, ℕ, ◌+◌, ◌-◌, ◌<◌, ℤ, List, [], ◌∷◌, ◌++◌, length, take, drop, sym, subst, ◌∙◌, arith, inl, inr}
use Rattle.std.proofs.lemmas.List.{get_or_append_left, get_or_push, length_push, take-append-le, take_all}
use Rattle.std.proofs.lemmas.Bool.Decides.{eqb_tells}
use Rattle.cedarwood.specs.Tree.{Tree}
use Rattle.cedarwood.specs.Queries.{front}
use Rattle.cedar_words.specs.ModelSteps.{AreKeptBy, AreKeptUpTo, best_by, kept_at, kept_value, no_kept, step_by, TellsStep}
use Rattle.cedar_words.specs.declared.costs.Step.{Step}
use Rattle.cedar_words.specs.declared.cuts.Kept.{Kept}
use Rattle.cedar_words.specs.declared.models.UnknownRun.{UnknownRun}

-- one byte more
pub kept_up : (t : Tree) (key : ℤ → ℕ) (run : ℕ → UnknownRun) (text costs : List ℕ) (kept : List Kept) (cost : ℕ) (one : Kept) (left : ℕ) → 0 < left → length costs ≡ left → length kept ≡ left
    → TellsStep (best_by key costs (run (length text - left)) (front t (drop (length text - left) text))) one → AreKeptUpTo t key run text costs kept
    → AreKeptUpTo t key run text (costs ++ cost ∷ []) (kept ++ one ∷ [])
kept_up t key run text costs kept cost one left some len same is was k low high = elim (eqb_tells (length kept) k) [
  | inl end ↦
      let here = end.1 in
      let at : left ≡ k = omega (arith, here, same) in
      let all : costs ≡ take k (costs ++ cost ∷ []) = sym (take-append-le k costs (cost ∷ []) (omega (arith, at, len)) ∙ take_all k costs (omega (arith, at, len))) in
      subst (λ (m : Kept). TellsStep (step_by t key run text (costs ++ cost ∷ []) k) m) (sym (get_or_push kept one no_kept k here))
      (subst (λ l. TellsStep (best_by key l (run (length text - k)) (front t (drop (length text - k) text))) one) all
      (subst (λ n. TellsStep (best_by key costs (run (length text - n)) (front t (drop (length text - n) text))) one) at is))
  | inr other ↦
      let differ = other.1 in
      let more = length_push kept one in
      let below : k < length kept = omega (arith, differ, high, more) in
      let first : take k costs ≡ take k (costs ++ cost ∷ []) = sym (take-append-le k costs (cost ∷ []) (omega (arith, below, same, len))) in
      subst (λ (m : Kept). TellsStep (step_by t key run text (costs ++ cost ∷ []) k) m) (sym (get_or_append_left kept (one ∷ []) no_kept k below))
      (subst (λ l. TellsStep (best_by key l (run (length text - k)) (front t (drop (length text - k) text))) (kept_at kept k)) first (was k low below))
]

-- the same of the lists as they are after it
pub kept_pushed : (t : Tree) (key : ℤ → ℕ) (run : ℕ → UnknownRun) (text costs all_costs : List ℕ) (kept all_kept : List Kept) → all_costs ≡ costs → all_kept ≡ kept → AreKeptUpTo t key run text costs kept → AreKeptUpTo t key run text all_costs all_kept
kept_pushed t key run text costs all_costs kept all_kept is are was = subst (λ l. AreKeptUpTo t key run text l all_kept) (sym is) (subst (λ l. AreKeptUpTo t key run text costs l) (sym are) was)

-- what is kept of the best step from a position on tells it, if it says anything
pub told_here : (t : Tree) (key : ℤ → ℕ) (run : ℕ → UnknownRun) (text costs : List ℕ) (kept : List Kept) (place : ℕ) (one : Kept) → place < length text → AreKeptBy t key run text costs kept → one ≡ kept_at kept (length text - place) → 0 < one.len
    → (one.len ≡ (step_by t key run text costs (length text - place)).len) × (kept_value one ≡ (step_by t key run text costs (length text - place)).value)
told_here t key run text costs kept place one within are is some =
    let len = are.0 in
    let left = length text - place in
    let told : TellsStep (step_by t key run text costs left) one = subst (λ (k : Kept). TellsStep (step_by t key run text costs left) k) (sym is) (are.1 left (omega (arith, within)) (omega (arith, within, len))) in
    elim told [
      | inl zero ↦ absurd (omega (arith, some, zero))
      | inr says ↦ (sym says.0, sym says.1)
    ]
