-- What a call of a store does to its dictionary, and to what a crash may leave.
use Rattle.std.specs.Prelude.{◌≡◌, ℕ, Bool, true, false, List}
use Rattle.cedar_store.specs.State.{State, after_erase, after_put}
use Rattle.cedar_store.specs.Changes.{all_changed}
use Rattle.cedar_store.specs.Files.{IsEither}
use Rattle.cedar_store.specs.Told.{changes_told}
use Rattle.cedar_store.specs.declared.compaction.CompactError.{CompactError}
use Rattle.cedar_store.specs.declared.compaction.CompactError.TheVariants as compact
use Rattle.cedar_store.specs.declared.error.DurableError.{DurableError}
use Rattle.cedar_store.specs.declared.error.DurableError.TheVariants as error
use Rattle.cedar_store.specs.declared.store.Store.{Store}
use Rattle.cedar_runs.specs.declared.call.StoreCall.{StoreCall}
use Rattle.cedar_runs.specs.declared.call.StoreCall.TheVariants as call
use Rattle.cedar_runs.specs.declared.call.Outcome.{Outcome}
use Rattle.cedar_runs.specs.declared.call.Outcome.TheVariants.{Made, Nothing, Failed}

-- the state after a call
abbrev pub after_call : State → StoreCall → State
after_call s (call.Update key v) = after_put s key.now v
after_call s (call.Erase key) = after_erase s key.now
after_call s (call.Batch changes) = all_changed s (changes_told changes.now)
after_call s call.Compact = s
after_call s (call.Rule compaction) = s

-- what came of a change that returned this error
abbrev pub outcome_of : DurableError → Outcome
outcome_of (error.Device e) = Failed
outcome_of _ = Nothing

-- what came of a compaction that returned this error
abbrev pub outcome_of_compaction : CompactError → Outcome
outcome_of_compaction compact.Failed = Failed
outcome_of_compaction _ = Nothing

-- what came of an erasure, by whether it found its key
abbrev pub outcome_of_erasure : Bool → Outcome
outcome_of_erasure true = Made
outcome_of_erasure false = Nothing

-- a store between two calls: its device, the state of its dictionary, and whether it has failed
pub record Point (D : Type 0) : Type 0 where
  pub device : D
  pub held : State
  pub failed : Bool

-- a store as a point
abbrev pub point_of : {T A D : Type 0} → (T → State) → Store T A D → Point D
point_of state store = record { device = store.journal.device; held = state store.words; failed = store.failed }

-- the dictionary after a call with this outcome, which would make the state `after` of it
abbrev pub held_once : Outcome → State → State → State
held_once Made held after = after
held_once Nothing held after = held
held_once Failed held after = after

-- what counts for sure after a call with this outcome, which would make the state `after` of the dictionary
abbrev pub sure_once : Outcome → State → State → State
sure_once Made sure after = after
sure_once Nothing sure after = sure
sure_once Failed sure after = sure

-- whether the store has failed after a call with this outcome
abbrev pub failed_once : Outcome → Bool → Bool
failed_once Made failed = false
failed_once Nothing failed = failed
failed_once Failed failed = true

-- what a crash may leave during a call besides what counts for sure. A store that has failed makes no change
abbrev pub under_way : Bool → State → State → State
under_way true held after = held
under_way false held after = after

-- a crash leaves a file that represents what counts for sure, or the dictionary. These are one, unless the store has
-- failed
pub record IsKnown {D : Type 0} (may_leave : D → List ℕ → Type 0) (sure : State) (p : Point D) : Type 0 where
  pub one : p.failed ≡ false → sure ≡ p.held
  pub left : (file : List ℕ) → may_leave p.device file → IsEither sure p.held file

-- what a call leaves that would make the state `after` of the dictionary, and what a crash at any moment of it leaves
pub record IsCallStep {D : Type 0} (moment : D → ℕ) (left_since : D → ℕ → List ℕ → Type 0) (may_leave : D → List ℕ → Type 0) (old : Point D) (after : State) (outcome : Outcome) (new : Point D) : Type 0 where
  pub held : new.held ≡ held_once outcome old.held after
  pub failed : new.failed ≡ failed_once outcome old.failed
  pub known : (sure : State) → IsKnown may_leave sure old → IsKnown may_leave (sure_once outcome sure after) new
  pub crash : (sure : State) → IsKnown may_leave sure old → (file : List ℕ) → left_since new.device (moment old.device) file
      → IsEither sure (under_way old.failed old.held after) file

-- such a call of a store, as a step from the store before it to the store after it
abbrev pub IsStoreStep : {T A D : Type 0} → (D → ℕ) → (D → ℕ → List ℕ → Type 0) → (D → List ℕ → Type 0) → (T → State) → Store T A D → State → Outcome → Store T A D → Type 0
IsStoreStep moment left_since may_leave state old after outcome new = IsCallStep moment left_since may_leave (point_of state old) after outcome (point_of state new)
