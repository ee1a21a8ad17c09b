-- What a batch of updates or of erasures returns, and what it leaves.
use Rattle.std.specs.Prelude.{◌≡◌, ◌↔◌, ℕ, ◌<◌, pos, Bool, IsTrue, List, [], ◌∷◌, fold, get_or}
use Rattle.std.specs.Prelude.{is_some, length, MatchOption, None, Option, Some, take, IsSome}
use Rattle.std.specs.Prelude.{Result, Ok, Err}
use Rattle.cedar_tree.specs.Queries.{Entry}
use Rattle.cedar_tree.specs.State.{State, after_erase}
use Rattle.cedar_tree.specs.Tree.{number_at}
use Rattle.cedar_model.specs.Edit.NodeEdits.{IsAt}
use Rattle.cedar_model.specs.Meaning.Marks.{MarksCut}
use Rattle.cedar_model.specs.Meaning.WellFormed.{cells_in}
use Rattle.cedar_model.specs.Table.TableFields.{size_of}
use Rattle.cedar_model.specs.Table.Layouts.{LayoutKind}
use Rattle.cedarwood.specs.declared.batches.RefusedPair.{RefusedPair}
use Rattle.cedarwood.specs.declared.erasing.Found.{Found}
use Rattle.cedarwood.specs.Builds.{IsBuild}
use Rattle.cedarwood.specs.Dictionary.{Dictionary, IsMarked}
use Rattle.cedarwood.specs.Updates.{IsUpdate}

-- the pair at an index of some pairs
abbrev pub pair_at : List Entry → ℕ → Entry
pair_at entries index = get_or entries index ([], pos 0)

-- the pairs before the one at an index are stored by updates one after another, and the update of that one is refused
pub record StopsAt (layout : LayoutKind) (slots : ℕ) (before after : Dictionary) (entries : List Entry) (refusal : RefusedPair) : Type 0 where
  pub within : refusal.index < length entries
  pub steps : (between : Dictionary) × IsBuild layout slots before (take refusal.index entries) (Ok tt) between
      × IsUpdate layout slots between after (pair_at entries refusal.index).0 (pair_at entries refusal.index).1 (Err refusal.error)

-- the pairs are stored by updates one after another, each of the dictionary that the one before it left (`IsBuild`);
-- or one is refused, which is reported with its index (`StopsAt`)
abbrev pub IsUpdates : LayoutKind → ℕ → Dictionary → Dictionary → List Entry → Result (Unit {0}) RefusedPair → Type 0
IsUpdates layout slots before after entries (Ok x) = IsBuild layout slots before entries (Ok tt) after
IsUpdates layout slots before after entries (Err refusal) = StopsAt layout slots before after entries refusal

-- a key is erased, and whether it was held is returned
pub record IsErasure (before after : Dictionary) (key : List ℕ) (held : Bool) : Type 0 where
  pub answer : IsTrue held ↔ IsSome (number_at before.state.tree key)
  pub state : after.state ≡ after_erase before.state key
  pub marks : MarksCut before.marked after.marked key
  pub marked : IsMarked after
  pub size : (after.size ≡ before.size) × (after.capacity ≡ before.capacity)
  pub max_trial : after.max_trial ≡ before.max_trial
  pub search_limit : after.search_limit ≡ before.search_limit

-- the key is held with this value, and this is its node's slot
pub record IsFound (d : Dictionary) (key : List ℕ) (found : Found) : Type 0 where
  pub value : number_at d.state.tree key ≡ Some found.value
  pub inside : found.slot < size_of d.table
  pub at : IsAt (cells_in d.table) key found.slot

-- a key was found, or it isn't held
abbrev pub FindsKey : Dictionary → List ℕ → Option Found → Type 0
FindsKey d key found = MatchOption found (number_at d.state.tree key ≡ None) (IsFound d key)

-- the keys are erased one after another, each from the dictionary that the one before it left, and it is known of
-- each whether it was held
abbrev pub IsErasures : Dictionary → Dictionary → List (List ℕ) → List Bool → Type 0
IsErasures before after [] answers = (answers ≡ []) × (after ≡ before)
IsErasures before after (key ∷ keys) answers =
    (between : Dictionary) × (held : Bool) × (later : List Bool) × (answers ≡ held ∷ later) × IsErasure before between key held × IsErasures between after keys later

-- the state after some keys were erased one after another
abbrev pub keys_erased : State → List (List ℕ) → State
keys_erased s keys = fold after_erase s keys

-- whether each of some keys is held once those before it are erased
abbrev pub held_in_turn : State → List (List ℕ) → List Bool
held_in_turn s [] = []
held_in_turn s (key ∷ keys) = is_some (number_at s.tree key) ∷ held_in_turn (after_erase s key) keys
