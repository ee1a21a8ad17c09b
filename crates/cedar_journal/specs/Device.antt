-- What the calls of a device do to its file, and what a crash may do between two syncs.
use Rattle.std.specs.Prelude.{◌<◌, ◌≡◌, ◌⊎◌, ℕ, ◌+◌, ◌≤◌, List, ◌++◌, length}
use Rattle.std.specs.Prelude.{take, drop, Result, IsErrOf, OnOk}
pub use Rattle.torn_writes.specs.Tearing.{Cut, Only, Torn}
use Rattle.cedar_journal.specs.declared.device.DeviceError.{DeviceError}
use Rattle.cedar_journal.specs.declared.device.DeviceError.TheVariants.{Failed, Memory, NoRoom}

-- a file is what another one was, with these bytes at this offset
abbrev pub Holds : List ℕ → ℕ → List ℕ → List ℕ → Type 0
Holds old at bytes new = new ≡ take at old ++ bytes ++ drop (at + length bytes) old

-- what a crash may leave now, it might have left before, except for this step
abbrev pub Follows : (List ℕ → List ℕ → Type 0) → (List ℕ → Type 0) → (List ℕ → Type 0) → Type 0
Follows step old new = (c : List ℕ) → new c → (d : List ℕ) × old d × step d c

-- two files have the same first n bytes
abbrev pub HasFront : ℕ → List ℕ → List ℕ → Type 0
HasFront n file c = take n c ≡ take n file

-- time goes on in a device's call: what a crash since t might have left now, it might have left before, or it is what
-- a crash may leave now
pub record Elapses (before now : ℕ) (past since : ℕ → List ℕ → Type 0) (may_leave : List ℕ → Type 0) : Type 0 where
  pub later : before ≤ now
  pub nothing_else : (t : ℕ) (c : List ℕ) → t ≤ before → since t c → past t c ⊎ may_leave c
  pub keeps : (t : ℕ) (c : List ℕ) → t ≤ before → past t c → since t c

-- a crash at any moment since `old` leaves a file that P holds of
pub record LeavesOnly {D : Type 0} (moment : D → ℕ) (left_since : D → ℕ → List ℕ → Type 0) (old new : D) (P : List ℕ → Type 0) : Type 0 where
  pub later : moment old ≤ moment new
  pub each : (c : List ℕ) → left_since new (moment old) c → P c
  -- what a crash since an earlier moment t might have left, it might have left by then, or P holds of it
  pub before : (t : ℕ) (c : List ℕ) → t ≤ moment old → left_since new t c → left_since old t c ⊎ P c

-- a write has found no room since, and nothing has failed
abbrev pub FoundNoRoom : {D : Type 0} → (D → ℕ) → (D → ℕ) → D → D → Type 0
FoundNoRoom faults full old new = (full old < full new) × (faults new ≡ faults old)

-- what is counted in a call: its error, and nothing if it succeeds. Want of room is counted as such, from `full` to
-- `fuller`, and each other error as a failure, from `before` to `now`
pub record HasCause {T : Type 0} (before now full fuller : ℕ) (result : Result T DeviceError) : Type 0 where
  pub later : before ≤ now
  pub no_less : full ≤ fuller
  pub done : OnOk result (now ≡ before)
  pub failed : IsErrOf result Failed → before < now
  pub memory : IsErrOf result Memory → before < now
  pub no_room : IsErrOf result NoRoom → (full < fuller) × (now ≡ before)

-- what is counted in a read, from `before` to `now`: its error, but for lack of memory for the bytes, which is no
-- failure of the device
pub record HasReadCause {T : Type 0} (before now : ℕ) (result : Result T DeviceError) : Type 0 where
  pub later : before ≤ now
  pub done : OnOk result (now ≡ before)
  pub failed : IsErrOf result Failed → before < now
  pub memory : IsErrOf result Memory → now ≡ before
  pub no_room : IsErrOf result NoRoom → before < now
