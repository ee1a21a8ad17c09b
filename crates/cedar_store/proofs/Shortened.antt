-- What a change has done about the length of its file.
use Rattle.std.proofs.Common.{◌≡◌, ◌<◌, ◌≤◌, ◌∙◌, inl, inr, ⊎_elim, ℕ, Bool, true, false, List, ap, sym, arith}
use Rattle.cedarwood.specs.Queries.{walk}
use Rattle.cedarwood.specs.State.{State}
use Rattle.cedar_store.specs.declared.compaction.CompactError.{CompactError}
use Rattle.cedar_store.specs.declared.compaction.CompactError.TheVariants as error
use Rattle.cedar_store.specs.declared.store.Store.{Store}
use Rattle.cedar_store.specs.Compactions.{compacted_length, is_beyond, IsBeforeReplacing}
use Rattle.cedar_store.specs.Shortening.{is_due, IsKeptLong, IsLookedAfter, IsLookedAt, IsNotDue, IsShortEnough, IsShortened, IsShortenedIfDue, IsTooLong, IsUnlooked, KeptCause}

-- ---- why a file was kept as it was, from an earlier moment on

kept_since : (before between now : ℕ) (e : CompactError) → before ≤ between → KeptCause between now e → KeptCause before now e
kept_since before between now error.Memory later cause = cause
kept_since before between now error.TooLong later cause = cause
kept_since before between now (error.Kept d) later cause = let more : between < now = cause in omega (arith, later, more)
kept_since before between now error.Failed later cause = absurd cause

-- no new file was made in memory
pub kept_before : (before now : ℕ) (e : CompactError) → IsBeforeReplacing e → KeptCause before now e
kept_before before now error.Memory is = is
kept_before before now error.TooLong is = is
kept_before before now (error.Kept d) is = absurd is
kept_before before now error.Failed is = absurd is

-- ---- since before the record was written

module _ {T A D : Type 0} (seen : D → List ℕ) (faults : D → ℕ) (state : T → State) (old between new : Store T A D) where
  due_since : (end : ℕ) (is : Bool) → IsUnlooked old between → between.compaction ≡ old.compaction → is_due between end ≡ is → is_due old end ≡ is
  due_since end is un rule due = ap (λ r. is_beyond r old.base end) (sym rule) ∙ ap (λ b. is_beyond between.compaction b end) (sym un.0) ∙ due

  not_due_since : (end : ℕ) → IsUnlooked old between → between.compaction ≡ old.compaction → IsNotDue end between new → IsNotDue end old new
  not_due_since end un rule is = ((is.0.0 ∙ un.0, is.0.1 ∙ un.1), is.1, due_since end false un rule is.2)

  pub shortened_since : (end : ℕ) → IsUnlooked old between → between.compaction ≡ old.compaction → IsShortenedIfDue seen state end between new
      → IsShortenedIfDue seen state end old new
  shortened_since end un rule is = (due_since end true un rule is.0, (λ never. is.1.0 (rule ∙ never), is.1.1, is.1.2, is.1.3))

  looked_at_since : (end : ℕ) → IsUnlooked old between → between.compaction ≡ old.compaction → faults old.journal.device ≤ faults between.journal.device
      → IsLookedAt seen faults state end between new → IsLookedAt seen faults state end old new
  looked_at_since end un rule later looked = (
    due_since end true un rule looked.0,
    (
      looked.1.0,
      ⊎_elim
          (λ (enough : IsShortEnough state between new). inl (enough.0 ∙ un.1, ap (λ r. is_beyond r (compacted_length (walk (state new.words).tree)) new.journal.end) (sym rule) ∙ enough.1))
          (⊎_elim
          (λ (short : IsTooLong state end between new × IsShortened seen state between new).
          inr (inl (ap (λ r. is_beyond r (compacted_length (walk (state new.words).tree)) end) (sym rule) ∙ short.0, (λ never. short.1.0 (rule ∙ never), short.1.1, short.1.2, short.1.3))))
          (λ (kept : IsKeptLong faults between new).
          inr (inr (kept.0, kept.1, kept_since (faults old.journal.device) (faults between.journal.device) (faults new.journal.device) kept.0 later kept.2))))
          looked.1.1,
    ),
  )

  pub looked_since : (end : ℕ) → IsUnlooked old between → between.compaction ≡ old.compaction → faults old.journal.device ≤ faults between.journal.device
      → IsLookedAfter seen faults state end between new → IsLookedAfter seen faults state end old new
  looked_since end un rule later looked =
      ⊎_elim (λ (is : IsNotDue end between new). inl (not_due_since end un rule is)) (λ (is : IsLookedAt seen faults state end between new). inr (looked_at_since end un rule later is)) looked
