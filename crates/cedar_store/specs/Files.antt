-- The dictionary that a file represents.
use Rattle.std.specs.Prelude.{◌≡◌, ◌⊎◌, ℕ, Bool, true, false, ◌||◌, not, is_some, List, [], ◌∷◌}
use Rattle.std.specs.Prelude.{length, None, Option, Some, option_and_then, option_map}
use Rattle.cedar_journal.specs.declared.format.Format.{Format}
use Rattle.cedar_journal.specs.declared.format.Format.TheVariants.{Summed}
use Rattle.cedar_journal.specs.Files.{file_payloads, with_payload}
use Rattle.cedarwood.specs.State.{State, new_state}
use Rattle.cedar_store.specs.Changes.{after, after_payloads, Change, changes_of}

-- the state of the dictionary that a file represents, whatever a crash made of it: that after the changes of all
-- records that count. None: the file is of another kind, or one of its records is damaged or no change
abbrev pub state_of : List ℕ → Option State
state_of file = option_and_then (after_payloads new_state) (file_payloads file)

-- the state of the dictionary that a file represents once it has one record more, of this payload
abbrev pub state_with : List ℕ → List ℕ → Option State
state_with payload file = option_and_then (λ s. after s payload) (state_of file)

-- the format of the records of a file once it is opened: the one that its header names; of a new file version 2
abbrev pub format_named : Option Format → Format
format_named None = Summed
format_named (Some format) = format

-- how many records count in a file; none if it is refused
abbrev pub record_count : List ℕ → Option ℕ
record_count file = option_map length (file_payloads file)

-- whether one of some payloads is no change
abbrev pub has_no_change : List (List ℕ) → Bool
has_no_change [] = false
has_no_change (payload ∷ payloads) = not (is_some (changes_of payload)) || has_no_change payloads

-- the file is a journal's, and one of its records is no change
abbrev pub IsCorrupt : List ℕ → Type 0
IsCorrupt file = (payloads : List (List ℕ)) × (file_payloads file ≡ Some payloads) × (has_no_change payloads ≡ true)

-- the file represents one state or another
abbrev pub IsEither : State → State → List ℕ → Type 0
IsEither before after file = (state_of file ≡ Some before) ⊎ (state_of file ≡ Some after)

-- the file represents this state
abbrev pub StandsFor : State → List ℕ → Type 0
StandsFor state file = state_of file ≡ Some state

-- a file has the records of another one, and behind them one more, of these changes
pub record AddsRecord (changes : List Change) (before after : List ℕ) : Type 0 where
  pub payload : List ℕ
  pub behind : file_payloads after ≡ with_payload payload (file_payloads before)
  pub change : changes_of payload ≡ Some changes
