-- The opening of a store, once what it would cut off was kept.
use Rattle.std.specs.Prelude.{Result, Ok, Err, IfErr, IsErrAnd}
use Rattle.std.proofs.Common.{◌≡◌, ◌∙◌, ◌<◌, ℕ, List, ap, subst, sym}
use Rattle.cedar_journal.specs.Device.{Elapses, FoundNoRoom, LeavesOnly, Only}
use Rattle.cedar_journal.proofs.Moments as moments
use Rattle.cedar_store.specs.Causes.{OpenCause}
use Rattle.cedar_store.specs.declared.error.DurableError.{DurableError}
use Rattle.cedar_store.specs.Files.{state_of}
use Rattle.cedar_store.specs.Promises.{IsOpenCause}
use Rattle.cedar_salvage.specs.Openings.{IsReadable, KeepCause}
use Rattle.cedar_salvage.specs.declared.keep.KeepError.{KeepError}
use Rattle.cedar_salvage.specs.declared.keep.KeepError.TheVariants as keep

module _ {D : Type 0} (seen : D → List ℕ) (may_leave : D → List ℕ → Type 0) (moment : D → ℕ) (left_since : D → ℕ → List ℕ → Type 0)
    (only_now : (file : D) (c : List ℕ) → left_since file (moment file) c → may_leave file c) (old read : D)
    (restarted : Only (seen old) (may_leave old)) (same : seen read ≡ seen old)
    (still : Only (seen old) (may_leave old) → Only (seen read) (may_leave read))
    (time : Elapses (moment old) (moment read) (left_since old) (left_since read) (may_leave read)) where
  -- a crash until then leaves the file
  pub stays_kept : LeavesOnly moment left_since old read (λ c. c ≡ seen old)
  stays_kept =
      moments.goes_on moment left_since old old read (λ c. c ≡ seen old) (may_leave read)
      (moments.started moment left_since old (λ c. c ≡ seen old) (λ c left. restarted c (only_now old c left)))
      time (λ c left. still restarted c left ∙ same)

  -- and so what it represents
  pub stands_kept : LeavesOnly moment left_since old read (λ c. state_of c ≡ state_of (seen old))
  stands_kept = moments.weakens moment left_since old read (λ c. c ≡ seen old) (λ c. state_of c ≡ state_of (seen old)) (λ c is. ap state_of is) stays_kept

  -- so it does during the opening, if that leaves the file
  pub stays_opened : (new : D) → LeavesOnly moment left_since read new (λ c. c ≡ seen read) → LeavesOnly moment left_since old new (λ c. c ≡ seen old)
  stays_opened new next =
      moments.joins moment left_since old read new (λ c. c ≡ seen old) stays_kept
      (moments.weakens moment left_since read new (λ c. c ≡ seen read) (λ c. c ≡ seen old) (λ c is. is ∙ same) next)

  -- or leaves what it represents
  pub stands_opened : (new : D) → LeavesOnly moment left_since read new (λ c. state_of c ≡ state_of (seen read)) → LeavesOnly moment left_since old new (λ c. state_of c ≡ state_of (seen old))
  stands_opened new next =
      moments.joins moment left_since old read new (λ c. state_of c ≡ state_of (seen old)) stands_kept
      (moments.weakens moment left_since read new (λ c. state_of c ≡ state_of (seen read)) (λ c. state_of c ≡ state_of (seen old)) (λ c is. is ∙ ap state_of same) next)

-- the cause of an opening's error, where the device was read before, and that didn't fail
pub cause_since : {D : Type 0} (seen : D → List ℕ) (faults full : D → ℕ) (old read new : D) (e : DurableError) → seen read ≡ seen old → faults read ≡ faults old → full read ≡ full old
    → IsOpenCause seen faults full read new e → IsOpenCause seen faults full old new e
cause_since seen faults full old read new e same unfailed room cause =
    subst (λ file. OpenCause file (faults old < faults new) (FoundNoRoom faults full old new) e) same
    (subst (λ n. OpenCause (seen read) (n < faults new) ((full old < full new) × (faults new ≡ n)) e) unfailed
    (subst (λ n. OpenCause (seen read) (faults read < faults new) ((n < full new) × (faults new ≡ faults read)) e) room cause))

-- an error that a `?` hands on has a cause, if it isn't that the device couldn't be read
readable_cause : (before now : ℕ) (e : KeepError) → IsReadable e → KeepCause before now e
readable_cause before now keep.Memory is = tt
readable_cause before now keep.Unread is = absurd is
readable_cause before now (keep.Unmade e) is = tt
readable_cause before now (keep.Unwritten e) is = tt

pub keep_cause : {X : Type 0} (r : Result X KeepError) (e : KeepError) (before now : ℕ) → IsErrAnd r (λ x. x ≡ e) → IsReadable e → IfErr r (KeepCause before now)
keep_cause (Ok x) e before now same is = tt
keep_cause (Err x) e before now same is = readable_cause before now x (subst IsReadable (sym same) is)
