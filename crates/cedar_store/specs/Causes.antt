-- What an error of a store says.
use Rattle.std.specs.Prelude.{◌≡◌, ◌⊎◌, ℕ, ℤ, ◌<◌, ◌≤◌, Bool, true, List, length}
use Rattle.std.specs.Prelude.{Option, None, Some, IsSome}
use Rattle.cedar_journal.specs.declared.device.DeviceError.{DeviceError}
use Rattle.cedar_journal.specs.declared.device.DeviceError.TheVariants as device
use Rattle.cedar_journal.specs.Files.{file_payloads, file_reading}
use Rattle.cedar_journal.specs.Formats.{damaged}
use Rattle.cedarwood.specs.State.{State}
use Rattle.cedarwood.specs.declared.error.CedarError.{CedarError}
use Rattle.cedarwood.specs.declared.error.CedarError.TheVariants as cedar
use Rattle.cedarwood.specs.Fault.{IsShortage}
use Rattle.cedar_store.specs.Batches.{batch_length, change_at, change_fault}
use Rattle.cedar_store.specs.Changes.{Change}
use Rattle.cedar_store.specs.declared.error.DurableError.{DurableError}
use Rattle.cedar_store.specs.declared.error.DurableError.TheVariants as error
use Rattle.cedar_store.specs.Files.{IsCorrupt}

-- why the changes of some payloads weren't all made: one of them is no change, or memory or slots were wanting
abbrev pub ReplayCause : Option State → DurableError → Type 0
ReplayCause outcome error.Corrupt = outcome ≡ None
ReplayCause outcome (error.Refused e) = IsShortage e
ReplayCause outcome _ = ⊥

-- why no dictionary was made of a file's bytes: it is of another kind; or the record at a position is damaged; or one
-- of its records is no change; or memory or slots were wanting
abbrev pub LoadCause : List ℕ → DurableError → Type 0
LoadCause file error.Foreign = file_reading file ≡ None
LoadCause file (error.Damaged at) = file_reading file ≡ Some (damaged at)
LoadCause file error.Corrupt = IsCorrupt file
LoadCause file (error.Refused e) = IsSome (file_payloads file) × IsShortage e
LoadCause file _ = ⊥

-- what a device's error says: `lacks` if it is want of room, and `fails` if it is another one
abbrev pub IsTold : Type 0 → Type 0 → DeviceError → Type 0
IsTold fails lacks device.NoRoom = lacks
IsTold fails lacks device.Memory = fails
IsTold fails lacks device.Failed = fails

-- why a device wasn't opened: as of its file's bytes (`LoadCause`); or there was no memory for these; or the device
-- failed, or had no room (`IsTold`)
abbrev pub OpenCause : List ℕ → Type 0 → Type 0 → DurableError → Type 0
OpenCause file fails lacks (error.Device e) = IsTold fails lacks e
OpenCause file fails lacks (error.Refused e) = (e ≡ cedar.Memory) ⊎ (IsSome (file_payloads file) × IsShortage e)
OpenCause file fails lacks e = LoadCause file e

-- why a file wasn't read: there was no memory for its bytes; or the disk failed, which is reported as `Failed`
-- whatever the device returned
abbrev pub ReadCause : ℕ → ℕ → DurableError → Type 0
ReadCause before now (error.Device e) = (e ≡ device.Failed) × (before < now)
ReadCause before now (error.Refused e) = e ≡ cedar.Memory
ReadCause before now _ = ⊥

-- the error isn't the device's, which wasn't written to
abbrev pub IsBeforeWrites : DurableError → Type 0
IsBeforeWrites (error.Device e) = ⊥
IsBeforeWrites _ = Unit {0}

-- why no record was made of a payload of n bytes, for a file whose records end at `end`: it is too long, they end too
-- far back, or memory was wanting
abbrev pub FrameCause : ℕ → ℕ → DurableError → Type 0
FrameCause end n error.TooLong = 4294967296 ≤ n
FrameCause end n error.Full = 1152921504606846976 ≤ end
FrameCause end n (error.Refused e) = e ≡ cedar.Memory
FrameCause end n _ = ⊥

-- why no payload of n bytes was made: it is too long, or memory was wanting
abbrev pub PayloadCause : ℕ → DurableError → Type 0
PayloadCause n error.TooLong = 4294967296 ≤ n
PayloadCause n (error.Refused e) = e ≡ cedar.Memory
PayloadCause n _ = ⊥

-- the error is the device's, which failed. `before` and `now` are how often it has failed
abbrev pub IsOfDevice : ℕ → ℕ → DurableError → Type 0
IsOfDevice before now (error.Device e) = before < now
IsOfDevice before now _ = ⊥

-- why a record wasn't written: the device failed (`fails`), and so has the store; or there was no room (`lacks`), and
-- the store goes on. `was` and `failed` are whether the store has failed before and now
abbrev pub IsUnwritten : Type 0 → Type 0 → Bool → Bool → DurableError → Type 0
IsUnwritten fails lacks was failed (error.Device e) = fails × (failed ≡ true)
IsUnwritten fails lacks was failed error.NoRoom = lacks × (failed ≡ was)
IsUnwritten fails lacks was failed _ = ⊥

-- memory was wanting, or, for a key that holds nothing, slots
abbrev pub IsWanting : Option ℤ → CedarError → Type 0
IsWanting held cedar.Memory = Unit {0}
IsWanting held cedar.SlotLimit = held ≡ None
IsWanting held _ = ⊥

-- why a put wasn't made: the store has failed before; the pair has a fault; memory or slots were wanting; no record
-- was made (`FrameCause`); there was no room for it (`lacks`); or the device failed (`fails`). `held` is what the key
-- held
abbrev pub ChangeCause : Bool → Option CedarError → Option ℤ → ℕ → ℕ → Type 0 → Type 0 → DurableError → Type 0
ChangeCause failed fault held end n fails lacks error.Failed = failed ≡ true
ChangeCause failed fault held end n fails lacks (error.Refused e) = (fault ≡ Some e) ⊎ IsWanting held e
ChangeCause failed fault held end n fails lacks (error.Device e) = fails
ChangeCause failed fault held end n fails lacks error.NoRoom = lacks
ChangeCause failed fault held end n fails lacks e = FrameCause end n e

-- why an erasure wasn't made: as of a put, but that no pair has a fault and no slots are wanted
abbrev pub EraseCause : Bool → ℕ → ℕ → Type 0 → Type 0 → DurableError → Type 0
EraseCause failed end n fails lacks error.Failed = failed ≡ true
EraseCause failed end n fails lacks (error.Device e) = fails
EraseCause failed end n fails lacks error.NoRoom = lacks
EraseCause failed end n fails lacks e = FrameCause end n e

-- which of some changes was refused, and why: its pair has that fault, or memory or slots were wanting
abbrev pub IsRefusedAt : List Change → DurableError → Type 0
IsRefusedAt changes (error.RefusedAt index e) = (index < length changes) × ((change_fault (change_at changes index) ≡ Some e) ⊎ IsShortage e)
IsRefusedAt changes _ = ⊥

-- why a batch wasn't made before its record was written: one of its changes was refused, or no record was made
abbrev pub PrepareCause : List Change → ℕ → DurableError → Type 0
PrepareCause changes end (error.RefusedAt index e) = IsRefusedAt changes (error.RefusedAt index e)
PrepareCause changes end e = FrameCause end (batch_length changes) e

-- why a batch wasn't made: the store has failed before; or it wasn't prepared (`PrepareCause`); or there was no room
-- for its record (`lacks`); or the device failed (`fails`)
abbrev pub BatchCause : Bool → List Change → ℕ → Type 0 → Type 0 → DurableError → Type 0
BatchCause failed changes end fails lacks error.Failed = failed ≡ true
BatchCause failed changes end fails lacks (error.Device e) = fails
BatchCause failed changes end fails lacks error.NoRoom = lacks
BatchCause failed changes end fails lacks e = PrepareCause changes end e

-- what an error leaves: `fails` if it is the device's, `lacks` if it is want of room, and `stays` if it is another
-- one
abbrev pub Leaves : DurableError → Type 0 → Type 0 → Type 0 → Type 0
Leaves (error.Device e) fails lacks stays = fails
Leaves error.NoRoom fails lacks stays = lacks
Leaves _ fails lacks stays = stays
