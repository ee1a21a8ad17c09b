-- What reads and writes say of the bytes that a source has left and a writer holds, where those are known.
use Rattle.std.specs.Prelude.{ℕ, ◌≡◌, ◌<◌, ◌/◌, ◌⊎◌, ◌++◌, Bool, true, false, List, length, take, Option}
use Rattle.std.specs.Prelude.{Some, None, ⊤, Result, IfErr, IfOk, MatchResult}
use Rattle.std.specs.Io.KnownBytes.{Consumes}
use Rattle.std.specs.List.{flat_map}
pub use Rattle.device_lines.specs.WatchedDevice.{EndsWithin}
use Rattle.cedar_format.specs.declared.error.CedarPersistenceError.{CedarPersistenceError}
use Rattle.cedar_format.specs.declared.error.CedarPersistenceError.TheVariants.{Io, Truncated}
use Rattle.cedar_format.specs.declared.error.CedarPersistenceError.TheVariants.{AllocationFailed}
use Rattle.cedar_format.specs.declared.error.CedarPersistenceError.TheVariants.{TrailingData}
use Rattle.cedar_format.specs.declared.header.Header.{Header}

-- why n bytes couldn't be read: the reader failed, or fewer than n were left
abbrev pub Misses : Option (List ℕ) → Bool → ℕ → CedarPersistenceError → Type 0
Misses left failed n (Io cause) = failed ≡ true
Misses left failed n Truncated = failed ≡ false → EndsWithin left n
Misses left failed n _ = ⊥

-- an end of the input was returned since fewer than n bytes were left, unless a read returned the end as a fault (`cut`)
abbrev pub EndsShort : Option (List ℕ) → Bool → ℕ → CedarPersistenceError → Type 0
EndsShort left cut n e = e ≡ Truncated → cut ≡ false → EndsWithin left n

-- the error is `Io`: the device failed
abbrev pub IsIo : CedarPersistenceError → Type 0
IsIo (Io cause) = ⊤
IsIo _ = ⊥

-- if a success or an end of the input is returned, no read was broken off
abbrev pub TellsBreaks : {X : Type 0} → Bool → Bool → Result X CedarPersistenceError → Type 0
TellsBreaks old new answer = MatchResult answer (λ x. new ≡ old) (λ e. e ≡ Truncated → new ≡ old)

-- so many bytes (`len`) were read as one thing of a source that had `before` left and has `after` now, or they
-- couldn't be read. A source that has failed stays so
pub record ReadsBy {X : Type 0} (bytes_of : X → List ℕ) (len : ℕ) (before after : Option (List ℕ)) (failed_before failed_after : Bool) (result : Result X CedarPersistenceError) : Type 0 where
  pub bytes : IfOk result (λ x. Consumes before after (bytes_of x))
  pub misses : IfErr result (Misses before failed_after len)
  pub failed : failed_before ≡ true → failed_after ≡ true

-- some bytes were read of a source that had `before` left and has `after` now, and they are those of the records that have come behind
-- the old ones
abbrev pub ReadsRecords : {X : Type 0} → (X → List ℕ) → Option (List ℕ) → Option (List ℕ) → List X → List X → Type 0
ReadsRecords bytes_of before after old new =
    (bytes : List ℕ) × Consumes before after bytes × (flat_map bytes_of new ≡ flat_map bytes_of old ++ bytes)

-- the error is `AllocationFailed`: memory was refused
abbrev pub IsLack : CedarPersistenceError → Type 0
IsLack (AllocationFailed n) = ⊤
IsLack _ = ⊥

-- a byte was left behind the end, or the reader failed there
abbrev pub Trails : Option (List ℕ) → Bool → CedarPersistenceError → Type 0
Trails left failed (Io cause) = failed ≡ true
Trails None failed TrailingData = ⊤
Trails (Some bytes) failed TrailingData = 0 < length bytes
Trails left failed _ = ⊥

-- the error is `AllocationFailed` with the length of one of the four lists of the header h
abbrev pub LacksTable : Header → CedarPersistenceError → Type 0
LacksTable h (AllocationFailed n) = (n ≡ h.capacity) ⊎ ((n ≡ h.capacity / 256) ⊎ (n ≡ h.reject_len))
LacksTable h _ = ⊥

-- if memory was refused, it was for one of the four lists of a header that `passed` holds of
abbrev pub LacksNoMore : (Header → Type 0) → CedarPersistenceError → Type 0
LacksNoMore passed (AllocationFailed n) = (h : Header) × passed h × ((n ≡ h.capacity) ⊎ ((n ≡ h.capacity / 256) ⊎ (n ≡ h.reject_len)))
LacksNoMore passed _ = ⊤

-- these bytes come first, if the source reports its bytes
abbrev pub BeginsWithFront : Option (List ℕ) → List ℕ → Type 0
BeginsWithFront None front = ⊤
BeginsWithFront (Some bytes) front = take (length front) bytes ≡ front
