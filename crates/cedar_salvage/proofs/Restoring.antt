-- A store that is made of what was saved: what a crash leaves meanwhile, and why none is made.
use Rattle.std.specs.Prelude.{Err}
use Rattle.std.proofs.Common.{◌≡◌, ◌∙◌, inl, inr, ⊎_elim, ℕ, List, None, Some, ap, refl, subst}
use Rattle.cedar_journal.specs.Device.{LeavesOnly}
use Rattle.cedar_journal.specs.Files.{file_payloads, file_reading, IsFault}
use Rattle.cedar_journal.specs.Formats.{damaged}
use Rattle.cedar_journal.specs.Journal.{StandsForEither}
use Rattle.cedar_journal.specs.Replacing.{IfKept}
use Rattle.cedar_journal.specs.declared.device.DeviceError.TheVariants as device
use Rattle.cedar_journal.specs.declared.records.FileFault.{FileFault}
use Rattle.cedar_journal.specs.declared.records.FileFault.TheVariants as fault
use Rattle.cedar_journal.specs.declared.replace.ReplaceError.{ReplaceError}
use Rattle.cedar_journal.specs.declared.replace.ReplaceError.TheVariants.{Failed, Kept}
use Rattle.cedar_journal.proofs.Moments as moments
use Rattle.cedar_store.specs.Causes.{ReadCause}
use Rattle.cedar_store.specs.Told.{file_error}
use Rattle.cedar_store.specs.declared.error.DurableError.{DurableError}
use Rattle.cedar_store.specs.declared.error.DurableError.TheVariants as error
use Rattle.cedar_salvage.specs.Restoring.{IsOfFile, IsOfRoom, restore_error, RestoreCause}

module _ {D : Type 0} (moment : D → ℕ) (left_since : D → ℕ → List ℕ → Type 0) (file : List ℕ) (payloads : List (List ℕ)) where
  abbrev Either : List ℕ → Type 0
  Either c = StandsForEither (file_payloads file) payloads c

  -- once the file was read
  pub once_read : (old read : D) → LeavesOnly moment left_since old read (λ c. c ≡ file) → LeavesOnly moment left_since old read Either
  once_read old read leaves = moments.weakens moment left_since old read (λ c. c ≡ file) Either (λ c is. inl (ap file_payloads is)) leaves

  -- and once it was opened
  pub once_opened : (old read opened : D) (seen : List ℕ) → seen ≡ file → LeavesOnly moment left_since old read (λ c. c ≡ file)
      → LeavesOnly moment left_since read opened (λ c. file_payloads c ≡ file_payloads seen) → LeavesOnly moment left_since old opened Either
  once_opened old read opened seen same first next =
      moments.joins moment left_since old read opened Either (once_read old read first)
      (moments.weakens moment left_since read opened (λ c. file_payloads c ≡ file_payloads seen) Either (λ c is. inl (is ∙ ap file_payloads same)) next)

  -- and once it was replaced
  pub once_replaced : (old opened new : D) (seen : List ℕ) → file_payloads seen ≡ file_payloads file → LeavesOnly moment left_since old opened Either
      → LeavesOnly moment left_since opened new (StandsForEither (file_payloads seen) payloads) → LeavesOnly moment left_since old new Either
  once_replaced old opened new seen same first next =
      moments.joins moment left_since old opened new Either first
      (moments.weakens moment left_since opened new (StandsForEither (file_payloads seen) payloads) Either (λ c. ⊎_elim (λ is. inl (is ∙ same)) (λ is. inr is)) next)

-- ---- a replacement that failed

pub not_of_file : (e : ReplaceError) → IsOfFile (restore_error e) → ⊥
not_of_file (Kept device.Memory) is = is
not_of_file (Kept device.NoRoom) is = is
not_of_file (Kept device.Failed) is = is
not_of_file Failed is = is

pub is_kept : (e : ReplaceError) (P : Type 0) → IfKept {T = Unit {0}} (Err e) P → IsOfRoom (restore_error e) → P
is_kept (Kept device.Memory) P kept is = kept
is_kept (Kept device.NoRoom) P kept is = kept
is_kept (Kept device.Failed) P kept is = kept
is_kept Failed P kept is = absurd is

pub unreplaced : (file : List ℕ) (e : ReplaceError) → RestoreCause file (restore_error e)
unreplaced file (Kept device.Memory) = refl
unreplaced file (Kept device.NoRoom) = tt
unreplaced file (Kept device.Failed) = tt
unreplaced file Failed = tt

-- ---- a file that wasn't read, or isn't a journal's

pub unread : (file : List ℕ) (before now : ℕ) (e : DurableError) → ReadCause before now e → RestoreCause file e
unread file before now (error.Device e) cause = tt
unread file before now (error.Refused e) cause = cause
unread file before now error.Foreign cause = absurd cause
unread file before now (error.Damaged at) cause = absurd cause
unread file before now error.Corrupt cause = absurd cause
unread file before now (error.RefusedAt index e) cause = absurd cause
unread file before now error.TooLong cause = absurd cause
unread file before now error.Full cause = absurd cause
unread file before now error.NoRoom cause = absurd cause
unread file before now error.Failed cause = absurd cause

pub refused_file : (bytes file : List ℕ) (why : FileFault) → bytes ≡ file → IsFault bytes why → RestoreCause file (file_error why)
refused_file bytes file fault.Foreign same is = subst (λ f. file_reading f ≡ None) same is
refused_file bytes file (fault.Damaged at) same is = subst (λ f. file_reading f ≡ Some (damaged at)) same is
