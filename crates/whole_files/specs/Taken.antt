-- What a call that writes took, by what the system answers.
use Rattle.std.specs.Prelude.{◌≡◌, ◌≢◌, ◌⊎◌, ◌<◌, ◌≤◌, ◌^◌, ℕ, true, false, List}
use Rattle.std.specs.Prelude.{take, Result, Ok, Err, IsErrAnd}
use Rattle.std_io.specs.declared.io.error.Error.{Error}
use Rattle.std_io.specs.declared.io.kind.ErrorKind.{ErrorKind}
use Rattle.std_io.specs.declared.io.kind.ErrorKind.TheVariants.{FileTooLarge, Interrupted}
use Rattle.std_io.specs.declared.io.kind.ErrorKind.TheVariants.{QuotaExceeded, StorageFull}
use Rattle.std_io.specs.IoError.{error_kind}
use Rattle.whole_files.specs.Calls.{Call, full_call, interrupted_call, write_call}
use Rattle.whole_files.specs.declared.wrote.Wrote.{Wrote}
use Rattle.whole_files.specs.declared.wrote.Wrote.TheVariants.{Bytes, Nothing, Full, Failed}

-- a write of these bytes at this offset as it is noted, by what the system took: exactly these bytes; any of them may
-- be there; or none, if a signal came first or it found no room
abbrev pub write_by_outcome : ℕ → List ℕ → Wrote → Call
write_by_outcome at bytes (Bytes n) = write_call at (take n bytes) true
write_by_outcome at bytes Nothing = interrupted_call
write_by_outcome at bytes (Full e) = full_call
write_by_outcome at bytes (Failed e) = write_call at bytes false

-- an error of this kind says that there was no room
abbrev pub IsWantOfRoom : ErrorKind → Type 0
IsWantOfRoom kind = (kind ≡ StorageFull) ⊎ (kind ≡ QuotaExceeded) ⊎ (kind ≡ FileTooLarge)

-- a call that returned an error of this kind may have written a part: no signal came first, and there was room
pub record IsFailure (kind : ErrorKind) : Type 0 where
  pub uninterrupted : kind ≢ Interrupted
  pub disk : kind ≢ StorageFull
  pub owner : kind ≢ QuotaExceeded
  pub process : kind ≢ FileTooLarge

-- if the system took some of n bytes at this offset, these are at most n, and the offset is below 2^63. If it found no
-- room, the error says so; if it failed, the error says nothing that leaves the file as it was
abbrev pub TookSome : ℕ → ℕ → Wrote → Type 0
TookSome at n (Bytes count) = (0 < count) × (count ≤ n) × (at < 2 ^ 63)
TookSome at n Nothing = Unit {0}
TookSome at n (Full e) = IsWantOfRoom (error_kind e)
TookSome at n (Failed e) = IsFailure (error_kind e)

-- a write is taken for what the system has answered: for one that took bytes, only if it has returned how many; for one
-- that a signal came before, only if it has said so; and for one without room, by the error that it has returned
abbrev pub IsAnswered : Result ℕ Error → Wrote → Type 0
IsAnswered answer (Bytes n) = answer ≡ Ok n
IsAnswered answer Nothing = IsErrAnd answer (λ e. error_kind e ≡ Interrupted)
IsAnswered answer (Full e) = answer ≡ Err e
IsAnswered answer (Failed e) = Unit {0}
