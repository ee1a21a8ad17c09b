-- How the changes of a batch are made, and how they are recorded: all updates come first, then the erasures of keys
-- that no later change puts.
use Rattle.std.specs.Prelude.{◌≡◌, ℕ, ◌+◌, ◌<◌, ℤ, Bool, false, ◌||◌, cond, List, [], ◌∷◌, ◌++◌}
use Rattle.std.specs.Prelude.{fold, get_or, length, take, Option, None, Some, nat_eq}
use Rattle.std.specs.Cmp.Lexicographic.{pointwise}
use Rattle.cedar_journal.specs.Records.{length_bytes}
use Rattle.cedarwood.specs.State.{State, after_put, after_erase}
use Rattle.cedarwood.specs.Tree.{IsKey}
use Rattle.cedarwood.specs.declared.error.CedarError.{CedarError}
use Rattle.cedarwood.specs.Fault.{fault}
use Rattle.cedar_store.specs.Changes.{Change, put_at, erase_at, change_of}
use Rattle.cedar_store.specs.Undo.{IsPutOf}
use Rattle.cedar_store.specs.declared.error.DurableError.{DurableError}
use Rattle.cedar_store.specs.declared.error.DurableError.TheVariants.{RefusedAt}

-- the change at an index
abbrev pub change_at : List Change → ℕ → Change
change_at changes i = get_or changes i (erase_at [])

-- the state after a change if it is an update; an erasure waits
abbrev pub only_updated : State → Change → State
only_updated s (put_at key v) = after_put s key v
only_updated s (erase_at key) = s

-- the state after the updates among some changes
abbrev pub all_updated : State → List Change → State
all_updated s changes = fold only_updated s changes

-- whether a change puts a value at this path
abbrev pub puts : List ℕ → Change → Bool
puts path (put_at key v) = pointwise nat_eq path key
puts path (erase_at key) = false

-- whether one of some changes puts a value at this path
abbrev pub is_put_by : List ℕ → List Change → Bool
is_put_by path [] = false
is_put_by path (c ∷ changes) = puts path c || is_put_by path changes

-- the state after an erasure that waited, unless a later change puts its key
abbrev pub late_erased : State → Change → List Change → State
late_erased s (put_at key v) later = s
late_erased s (erase_at key) later = cond (is_put_by key later) s (after_erase s key)

-- the state after all erasures that waited among some changes
abbrev pub all_erased_late : State → List Change → State
all_erased_late s [] = s
all_erased_late s (c ∷ changes) = all_erased_late (late_erased s c changes) changes

-- the fault of a change: that of an update's pair
abbrev pub change_fault : Change → Option CedarError
change_fault (put_at key v) = fault key v
change_fault (erase_at key) = None

-- the change has no fault
abbrev pub IsFaultless : Change → Type 0
IsFaultless c = change_fault c ≡ None

-- the fault of a change as it is reported, with the change's index; or without one what is reported of those behind
-- it
abbrev pub fault_at : ℕ → Option CedarError → Option DurableError → Option DurableError
fault_at n (Some e) later = Some (RefusedAt n e)
fault_at n None later = later

-- the first of some changes that has a fault, as it is reported, if there is one; the first of the changes has this
-- index
abbrev pub first_refused : ℕ → List Change → Option DurableError
first_refused n [] = None
first_refused n (c ∷ changes) = fault_at n (change_fault c) (first_refused (n + 1) changes)

-- what the change puts a value at, if it does, is a key
abbrev pub HasKey : Change → Type 0
HasKey (put_at key v) = IsKey key
HasKey (erase_at key) = Unit {0}

-- the number that the key of an update held before it, so that this can be taken back
abbrev pub IsHeld : State → Change → Option ℤ → Type 0
IsHeld s (put_at key v) held = IsPutOf s key held (after_put s key v)
IsHeld s (erase_at key) held = Unit {0}

-- the numbers that the keys of some changes held, each before its update (`IsHeld`)
abbrev pub AreHeld : State → List Change → List (Option ℤ) → Type 0
AreHeld s changes held = (i : ℕ) → i < length changes → IsHeld (all_updated s (take i changes)) (change_at changes i) (get_or held i None)

-- the record of version 1 of a payload: an open gate, its length and itself
abbrev pub record_of : List ℕ → List ℕ
record_of payload = 1 ∷ (length_bytes (length payload) ++ payload)

-- how many bytes the payload of a change has
abbrev pub change_length : Change → ℕ
change_length (put_at key v) = length key + 5
change_length (erase_at key) = length key + 1

-- how many bytes the payload of a batch has: its kind, and a record for each change
abbrev pub batch_length : List Change → ℕ
batch_length [] = 1
batch_length (c ∷ changes) = 5 + change_length c + batch_length changes

-- the record of a change is behind some bytes, and there is nothing behind it
pub record IsRecorded (c : Change) (before after : List ℕ) : Type 0 where
  pub payload : List ℕ
  pub behind : after ≡ before ++ record_of payload
  pub change : change_of payload ≡ Some c
  pub size : length payload ≡ change_length c
  pub short : length payload < 4294967296
