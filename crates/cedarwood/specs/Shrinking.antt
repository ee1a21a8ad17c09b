-- A dictionary built anew of another one's entries, in as little room as these take.
use Rattle.std.specs.Prelude.{◌≡◌, ◌≤◌, ◌<◌, ◌⊎◌, ◌+◌, ◌-◌, ◌*◌, ◌/◌, ℕ, ℤ, Bool, List, [], ◌∷◌}
use Rattle.std.specs.Prelude.{length, map, Option, Some, None, IfErr, IfSome, MatchResult}
use Rattle.std.specs.Prelude.{OnErr, OnOk, Result, Ok, Err}
use Rattle.std.specs.List.{AllByRecursion}
use Rattle.cedar_tree.specs.Tree.{Tree, empty_tree, put}
use Rattle.cedar_tree.specs.Queries.{Entry, prefixes, walk}
use Rattle.cedar_tree.specs.Walks.{visited_entries}
use Rattle.cedar_bulk.specs.SortedMarks.{SortedMarks}
use Rattle.cedar_model.specs.Table.Layouts.{LayoutKind}
use Rattle.cedar_model.specs.Table.TableFields.{Fields}
use Rattle.cedar_model.specs.Meaning.WellFormed.{cells_in}
use Rattle.cedar_walk.specs.declared.visits.Numbered.{Numbered}
use Rattle.cedar_walk.specs.Visits.{IsBelow, left_at, number_below, path_to}
use Rattle.cedarwood.specs.declared.error.CedarError.{CedarError}
use Rattle.cedarwood.specs.declared.error.CedarError.TheVariants.{Memory, SlotLimit}
use Rattle.cedarwood.specs.Dictionary.{capacity_after, Dictionary, first_bytes, IsMarked}
use Rattle.cedarwood.specs.Updates.{IsUpdate}

-- how many bytes the keys of some entries have
abbrev pub key_bytes : List Entry → ℕ
key_bytes [] = 0
key_bytes (entry ∷ entries) = length entry.0 + key_bytes entries

-- a dictionary that was made of n entries by updates has so few slots: at most 255 outside the first block are free,
-- and 256 others for each entry, but for one of those with each first byte
pub record IsCompact (n : ℕ) (d : Dictionary) : Type 0 where
  pub first : first_bytes d.state.tree ≤ n
  pub entries : length (walk d.state.tree) ≤ n
  pub slots : d.size + 257 * first_bytes d.state.tree ≤ 511 + length (prefixes d.state.tree) + 257 * n

-- the same state, `max_trial` and search limit in a table that was empty: at most one block for each byte of a key,
-- beside the first one
pub record IsRebuilt (layout : LayoutKind) (before made : Dictionary) : Type 0 where
  pub state : made.state ≡ before.state
  pub max_trial : made.max_trial ≡ before.max_trial
  pub search_limit : made.search_limit ≡ before.search_limit
  -- in the reduced layout just the numbers of keys that begin longer ones have slots of their own; by default all
  -- have
  pub marks : SortedMarks layout before.state.tree made.marked
  pub marked : IsMarked made
  pub size : (n : ℕ) × (n ≤ key_bytes (walk before.state.tree)) × (made.size ≡ 256 + 256 * n) × (made.capacity ≡ capacity_after n 256 256)
  pub slots : made.size + 257 * first_bytes before.state.tree ≤ 511 + length (prefixes before.state.tree) + 257 * length (walk before.state.tree)

-- how many slots a rebuilt dictionary of the tree t has at most
abbrev pub most_capacity : Tree → ℕ
most_capacity t = capacity_after ((255 + length (prefixes t) + 257 * length (walk t) - 257 * first_bytes t) / 256) 256 256

-- why no dictionary of some entries was made: memory, or slots if 256 times the bytes of their keys are all slots or
-- more
abbrev pub LacksPlaces : ℕ → List Entry → CedarError → Type 0
LacksPlaces slots entries e = (e ≡ Memory) ⊎ ((e ≡ SlotLimit) × (slots ≤ 256 * key_bytes entries))

-- a rebuilt dictionary has replaced another, unless it has more slots: then the other stays, and so it does after a
-- refusal
pub record IsShrunk (layout : LayoutKind) (slots : ℕ) (before after : Dictionary) (result : Result (Unit {0}) CedarError) : Type 0 where
  pub state : after.state ≡ before.state
  pub max_trial : after.max_trial ≡ before.max_trial
  pub search_limit : after.search_limit ≡ before.search_limit
  pub capacity : after.capacity ≤ before.capacity
  pub rebuilt : OnOk result ((made : Dictionary) × IsRebuilt layout before made × (made.capacity ≤ before.capacity → after ≡ made) × (before.capacity < made.capacity → after ≡ before))
  -- there are no more slots than a rebuilt dictionary of this tree may have
  pub bounded : OnOk result (after.capacity ≤ most_capacity before.state.tree)
  pub unchanged : OnErr result (after ≡ before)
  pub refused : IfErr result (LacksPlaces slots (walk before.state.tree))

-- ---- on the way

-- the tree with some entries put into it, from the last one to the first
abbrev pub put_back : Bool → Tree → List Entry → Tree
put_back ordered t [] = t
put_back ordered t (entry ∷ entries) = put (put_back ordered t entries) ordered entry.0 entry.1

-- the entry of a node that has a number
abbrev pub entry_of : Fields → Numbered → Entry
entry_of T place = (path_to T place.depth place.slot, place.number)

-- the node of this place is there, and has this number
abbrev pub IsEntryPlace : Fields → Numbered → Type 0
IsEntryPlace T place = IsBelow (cells_in T) [] place.depth place.slot × (number_below T [] place.depth place.slot ≡ Some place.number)

-- some entries are at these nodes
pub record ArePlaces (T : Fields) (entries : List Entry) (places : List Numbered) : Type 0 where
  pub same : entries ≡ map (entry_of T) places
  pub each : AllByRecursion (IsEntryPlace T) places

-- the node that a walk comes to next, if there is one, is there and has this number
abbrev pub IsNextPlace : Fields → Option Numbered → Type 0
IsNextPlace T next = IfSome next (IsEntryPlace T)

-- the entries from the node on that a walk comes to next, or nothing if there is none
abbrev pub entries_after : Fields → Option Numbered → List Entry
entries_after T None = []
entries_after T (Some place) = entry_of T place ∷ visited_entries (left_at T [] place.depth place.slot)

-- a dictionary with these settings, empty and of one block at first, into which some entries were put, from the last
-- one to the first
pub record IsPutBack (layout : LayoutKind) (order : Bool) (trials : ℤ) (limit : ℕ) (entries : List Entry) (d : Dictionary) : Type 0 where
  pub state : d.state ≡ record { tree = put_back order empty_tree entries; ordered = order }
  pub max_trial : d.max_trial ≡ trials
  pub search_limit : d.search_limit ≡ limit
  pub marks : SortedMarks layout d.state.tree d.marked
  pub marked : IsMarked d
  pub size : (n : ℕ) × (n ≤ key_bytes entries) × (d.size ≡ 256 + 256 * n) × (d.capacity ≡ capacity_after n 256 256)
  pub compact : IsCompact (length entries) d

-- a dictionary with these settings is made of some entries, or lacks places for them
abbrev pub IsMadeOf : LayoutKind → ℕ → Bool → ℤ → ℕ → List Entry → Result Dictionary CedarError → Type 0
IsMadeOf layout slots order trials limit entries made = MatchResult made (IsPutBack layout order trials limit entries) (LacksPlaces slots entries)

-- some entries are put into an empty dictionary, or it lacks places for them
abbrev pub PutsBack : LayoutKind → ℕ → Dictionary → Dictionary → List Entry → Result (Unit {0}) CedarError → Type 0
PutsBack layout slots before after entries result =
    MatchResult result (λ _. IsPutBack layout before.state.ordered before.max_trial before.search_limit entries after) (LacksPlaces slots entries)

-- an entry is put into a dictionary by an update, or there was no memory for its key
pub record PutsEntry (layout : LayoutKind) (slots : ℕ) (before after : Dictionary) (entry : Entry) (result : Result (Unit {0}) CedarError) : Type 0 where
  pub put : OnOk result (IsUpdate layout slots before after entry.0 entry.1 (Ok tt))
  pub refused : IfErr result (λ e. (e ≡ Memory) ⊎ IsUpdate layout slots before after entry.0 entry.1 (Err e))
