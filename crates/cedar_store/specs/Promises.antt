-- What each change of a store promises: of the store before it and after it.
use Rattle.std.specs.Prelude.{◌≡◌, ◌⊎◌, ◌<◌, ℕ, ◌+◌, ℤ, true, false, List, Some, length}
use Rattle.cedar_journal.specs.Device.{FoundNoRoom, LeavesOnly}
use Rattle.cedar_journal.specs.Files.{file_payloads, with_payload}
use Rattle.cedar_journal.specs.Journal.{IsBeforeOrAfter, IsSettled}
use Rattle.cedarwood.specs.Fault.{fault}
use Rattle.cedarwood.specs.State.{State}
use Rattle.cedarwood.specs.Tree.{number_at}
use Rattle.cedar_store.specs.Causes.{BatchCause, ChangeCause, EraseCause, IsOfDevice}
use Rattle.cedar_store.specs.Causes.{IsUnwritten, Leaves, OpenCause}
use Rattle.cedar_store.specs.Changes.{Change}
use Rattle.cedar_store.specs.Compactions.{LeavesFile}
use Rattle.cedar_store.specs.declared.compaction.CompactError.{CompactError}
use Rattle.cedar_store.specs.Files.{AddsRecord, IsEither, StandsFor, record_count, state_of}
use Rattle.cedar_store.specs.Shortening.{end_behind, IsShortenedIfDue}
use Rattle.cedar_store.specs.Store.{IsReady}
use Rattle.cedar_store.specs.declared.error.DurableError.{DurableError}
use Rattle.cedar_store.specs.declared.store.Store.{Store}

-- the labels of the store's dictionary ascend; and unless the store has failed, its file represents the dictionary
-- (`IsReady`)
abbrev pub IsReadyStore : {T A D : Type 0} → (D → List ℕ) → (D → List ℕ → Type 0) → (T → State) → Store T A D → Type 0
IsReadyStore seen may_leave state store = IsReady seen may_leave store.journal.device store.journal.format store.journal.end (state store.words) store.failed

-- the store's count is that of the records of its file, unless the store has failed
abbrev pub IsCounted : {T A D : Type 0} → (D → List ℕ) → Store T A D → Type 0
IsCounted seen store = store.failed ≡ false → record_count (seen store.journal.device) ≡ Some store.records

-- if the count was right before, it is right after (`IsCounted`)
abbrev pub KeepsCount : {T A D : Type 0} → (D → List ℕ) → Store T A D → Store T A D → Type 0
KeepsCount seen old new = IsCounted seen old → IsCounted seen new

-- the store hasn't failed, and its dictionary has this state
abbrev pub HasState : {T A D : Type 0} → (T → State) → Store T A D → State → Type 0
HasState state store after = (store.failed ≡ false) × (state store.words ≡ after)

-- a crash at any moment of a change leaves a file that represents the dictionary from before it, or this state
abbrev pub CrashLeavesEither : {T A D : Type 0} → (D → ℕ) → (D → ℕ → List ℕ → Type 0) → (T → State) → Store T A D → Store T A D → State → Type 0
CrashLeavesEither moment left_since state old new after =
    old.failed ≡ false → LeavesOnly moment left_since old.journal.device new.journal.device (IsEither (state old.words) after)

-- a crash at any moment of a call leaves a file that represents the dictionary
abbrev pub CrashLeavesState : {T A D : Type 0} → (D → ℕ) → (D → ℕ → List ℕ → Type 0) → (T → State) → Store T A D → Store T A D → Type 0
CrashLeavesState moment left_since state old new = LeavesOnly moment left_since old.journal.device new.journal.device (StandsFor (state old.words))

-- a crash at any moment of a call leaves a file that represents the dictionary, or what it might have left before
abbrev pub CrashLeavesStateOrOld : {T A D : Type 0} → (D → ℕ) → (D → ℕ → List ℕ → Type 0) → (D → List ℕ → Type 0) → (T → State) → Store T A D → Store T A D → Type 0
CrashLeavesStateOrOld moment left_since may_leave state old new =
    LeavesOnly moment left_since old.journal.device new.journal.device (λ c. may_leave old.journal.device c ⊎ StandsFor (state old.words) c)

-- a crash at any moment of a call leaves a file that represents what the store's file represented before it, or this
-- state
abbrev pub CrashLeavesOldOr : {T A D : Type 0} → (D → List ℕ) → (D → ℕ) → (D → ℕ → List ℕ → Type 0) → Store T A D → Store T A D → State → Type 0
CrashLeavesOldOr seen moment left_since old new after =
    (s : State) → state_of (seen old.journal.device) ≡ Some s → LeavesOnly moment left_since old.journal.device new.journal.device (IsEither s after)

-- a crash at any moment of a call leaves a file with the records from before it, or with one more behind them, of this
-- payload (`IsBeforeOrAfter`)
abbrev pub CrashLeavesRecord : {T A D : Type 0} → (D → List ℕ) → (D → ℕ) → (D → ℕ → List ℕ → Type 0) → List ℕ → Store T A D → Store T A D → Type 0
CrashLeavesRecord seen moment left_since payload old new =
    LeavesOnly moment left_since old.journal.device new.journal.device (IsBeforeOrAfter (file_payloads (seen old.journal.device)) payload)

-- the file has one record more, of this payload
abbrev pub AddsPayload : {T A D : Type 0} → (D → List ℕ) → List ℕ → Store T A D → Store T A D → Type 0
AddsPayload seen payload old new = file_payloads (seen new.journal.device) ≡ with_payload payload (file_payloads (seen old.journal.device))

-- the file has one record more, of these changes (`AddsRecord`), whose payload has n bytes; or it was made short, if
-- its length was to be looked at then (`IsShortenedIfDue`)
abbrev pub IsRecordedIn : {T A D : Type 0} → (D → List ℕ) → (T → State) → ℕ → Store T A D → Store T A D → List Change → Type 0
IsRecordedIn seen state n old new changes =
    AddsRecord changes (seen old.journal.device) (seen new.journal.device) ⊎ IsShortenedIfDue seen state (end_behind old n) old new

-- what a compaction leaves if the device kept the file: bytes and store are as they were, and so is what a crash may
-- leave
abbrev pub KeepsFile : {T A D : Type 0} → (D → List ℕ) → (D → List ℕ → Type 0) → Store T A D → Store T A D → Type 0
KeepsFile seen may_leave old new =
    (new.failed ≡ old.failed) × (seen new.journal.device ≡ seen old.journal.device) × ((c : List ℕ) → may_leave new.journal.device c → may_leave old.journal.device c)

-- what an error leaves. After the device's the store has failed, and its dictionary has the change. After want of
-- room it hasn't; its dictionary is as it was, and its records end where they did. After another one all is as it was
abbrev pub LeavesStore : {T A D : Type 0} → (T → State) → Store T A D → Store T A D → State → DurableError → Type 0
LeavesStore state old new after e =
    Leaves e ((new.failed ≡ true) × (state new.words ≡ after))
    ((new.failed ≡ false) × (new.journal.end ≡ old.journal.end) × (state new.words ≡ state old.words))
    ((new.failed ≡ old.failed) × (new.journal ≡ old.journal) × (state new.words ≡ state old.words))

-- what an error of a compaction leaves (`LeavesFile`): a store that has failed, if it isn't known which file is there;
-- the file, if the device kept it (`KeepsFile`); and else the store as it was
abbrev pub LeavesUncompacted : {T A D : Type 0} → (D → List ℕ) → (D → List ℕ → Type 0) → Store T A D → Store T A D → CompactError → Type 0
LeavesUncompacted seen may_leave old new e =
    LeavesFile e (new.failed ≡ true) (KeepsFile seen may_leave old new) ((new.failed ≡ old.failed) × (new.journal ≡ old.journal))

-- a call of the store's device has failed
abbrev pub DeviceFails : {T A D : Type 0} → (D → ℕ) → Store T A D → Store T A D → Type 0
DeviceFails faults old new = faults old.journal.device < faults new.journal.device

-- a write of the store's device has found no room, and no call of it has failed
abbrev pub DeviceIsFull : {T A D : Type 0} → (D → ℕ) → (D → ℕ) → Store T A D → Store T A D → Type 0
DeviceIsFull faults full old new = FoundNoRoom faults full old.journal.device new.journal.device

-- why a device wasn't opened (`OpenCause`)
abbrev pub IsOpenCause : {D : Type 0} → (D → List ℕ) → (D → ℕ) → (D → ℕ) → D → D → DurableError → Type 0
IsOpenCause seen faults full old new e = OpenCause (seen old) (faults old < faults new) (FoundNoRoom faults full old new) e

-- why a value wasn't put at a key (`ChangeCause`)
abbrev pub IsPutCause : {T A D : Type 0} → (D → ℕ) → (D → ℕ) → (T → State) → Store T A D → Store T A D → List ℕ → ℤ → DurableError → Type 0
IsPutCause faults full state old new key value e =
    ChangeCause old.failed (fault key value) (number_at (state old.words).tree key) old.journal.end (length key + 5)
    (DeviceFails faults old new) (DeviceIsFull faults full old new) e

-- why a key wasn't erased whose payload has n bytes (`EraseCause`)
abbrev pub IsEraseCause : {T A D : Type 0} → (D → ℕ) → (D → ℕ) → Store T A D → Store T A D → ℕ → DurableError → Type 0
IsEraseCause faults full old new n e = EraseCause old.failed old.journal.end n (DeviceFails faults old new) (DeviceIsFull faults full old new) e

-- why a batch of these changes wasn't made (`BatchCause`)
abbrev pub IsBatchCause : {T A D : Type 0} → (D → ℕ) → (D → ℕ) → Store T A D → Store T A D → List Change → DurableError → Type 0
IsBatchCause faults full old new changes e = BatchCause old.failed changes old.journal.end (DeviceFails faults old new) (DeviceIsFull faults full old new) e

-- a record wasn't written: the device failed, and so has the store; or there was no room for it, and the store goes
-- on
abbrev pub LeavesUnwritten : {T A D : Type 0} → (D → ℕ) → (D → ℕ) → Store T A D → Store T A D → DurableError → Type 0
LeavesUnwritten faults full old new e = IsUnwritten (DeviceFails faults old new) (DeviceIsFull faults full old new) old.failed new.failed e

-- what want of room leaves: dictionary and end as they were, and a file that represents the same, at rest and on the
-- disk
pub record LostRoom {T A D : Type 0} (seen : D → List ℕ) (may_leave : D → List ℕ → Type 0) (old new : Store T A D) : Type 0 where
  pub words : new.words ≡ old.words
  pub end : new.journal.end ≡ old.journal.end
  pub settled : IsSettled seen may_leave new.journal.device new.journal.format new.journal.end
  pub same : state_of (seen new.journal.device) ≡ state_of (seen old.journal.device)

-- what an error leaves of a change that was to make this state of the dictionary, and whose record was ready: the state
-- after a failure of the device, and after want of room what it leaves (`LostRoom`). There is no other error
abbrev pub LeavesChange : {T A D : Type 0} → (D → List ℕ) → (D → List ℕ → Type 0) → (T → State) → Store T A D → Store T A D → State → DurableError → Type 0
LeavesChange seen may_leave state old new after e = Leaves e (state new.words ≡ after) (LostRoom seen may_leave old new) ⊥

-- the device failed, and so has the store
abbrev pub FailsByDevice : {T A D : Type 0} → (D → ℕ) → Store T A D → Store T A D → DurableError → Type 0
FailsByDevice faults old new e = IsOfDevice (faults old.journal.device) (faults new.journal.device) e × (new.failed ≡ true)
