-- What calls on a file do one behind another: time goes on, bytes are written in as many calls as the system takes, and a file takes the
-- name of another one.
use Rattle.std.specs.Prelude.{◌≡◌, ◌⊎◌, ◌≤◌, ℕ, true, false, List}
use Rattle.std.specs.Prelude.{◌∷◌, length, IsTrue, Result}
use Rattle.cedar_journal.specs.Device.{Elapses, Follows, HasCause, Torn}
use Rattle.cedar_journal.specs.declared.device.DeviceError.{DeviceError}
use Rattle.whole_files.specs.Calls.{Call, LeftSince, MayLeave, all_within, faults_in}
use Rattle.whole_files.specs.Calls.{folder_sync_call, full_in, is_named_after, is_usable_after}
use Rattle.whole_files.specs.Calls.{overlay, rename_call, seen_after}

-- what is counted in the calls of a step: its error, and nothing if it succeeds (`HasCause`)
abbrev pub HasCauseIn : {T : Type 0} → List Call → List Call → Result T DeviceError → Type 0
HasCauseIn before after result = HasCause (faults_in before) (faults_in after) (full_in before) (full_in after) result

-- time goes on from the one list of calls to the other: what a crash may leave now, or might have left before, and
-- nothing else
abbrev pub TimePasses : List Call → List Call → Type 0
TimePasses old new = Elapses (length old) (length new) (LeftSince old) (LeftSince new) (MayLeave new)

-- between two lists of calls nothing was changed but n bytes at this offset, in part or whole
pub record Spoils (at n : ℕ) (old new : List Call) : Type 0 where
  pub crash : Follows (Torn at n) (MayLeave old) (MayLeave new)
  pub time : TimePasses old new
  pub faults : faults_in old ≤ faults_in new
  pub full : full_in old ≤ full_in new
  pub within : IsTrue (all_within old) → IsTrue (all_within new)
  pub named : is_named_after new ≡ is_named_after old

-- these bytes were written at this offset, as the first of n (`Spoils`), and no call failed but writes that found no
-- room
pub record AreWritten (at n : ℕ) (bytes : List ℕ) (old new : List Call) : Type 0 where
  pub seen : seen_after new ≡ overlay (seen_after old) at bytes
  pub usable : IsTrue (is_usable_after old) → IsTrue (is_usable_after new)
  pub faultless : faults_in new ≡ faults_in old
  pub spoils : Spoils at n old new

-- only the first of these bytes were written at this offset, and for the next there was no room
abbrev pub AreWrittenInPart : ℕ → List ℕ → List Call → List Call → Type 0
AreWrittenInPart at bytes old new = (front : List ℕ) × (length front ≤ length bytes) × AreWritten at (length bytes) front old new

-- a file of these bytes wasn't given the name: that call failed, or the sync of the folder behind it did, and then
-- the name isn't known to be on the disk
abbrev pub IsUnplaced : List ℕ → List Call → List Call → Type 0
IsUnplaced bytes old new = (new ≡ rename_call bytes false ∷ old) ⊎ (new ≡ folder_sync_call false ∷ rename_call bytes true ∷ old)
