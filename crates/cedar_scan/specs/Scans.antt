-- Where a scan over a piece of a text is, and what it has still to give.
use Rattle.std.specs.Prelude.{◌≡◌, ℕ, ◌+◌, ◌-◌, ◌*◌, ◌<◌, ◌≤◌, ℤ, List, [], ◌∷◌, ◌++◌, length}
use Rattle.std.specs.Prelude.{drop, map, take, Option, MatchOption, is_some}
use Rattle.std.specs.Prelude.{if◌then◌else◌}
use Rattle.std.specs.List.{All}
use Rattle.cedar_tree.specs.Tree.{Tree}
use Rattle.cedar_scan.specs.Automata.{path_in}
use Rattle.cedar_scan.specs.Listed.{keys_from}
use Rattle.cedar_scan.specs.Suffixes.{held_suffix, keys_ending, Occurrence}
use Rattle.cedar_scan.specs.Suffixes.{occurrence_ending, all_ending}
use Rattle.cedar_scan.specs.declared.scan.Cursor.{Cursor}
use Rattle.cedar_scan.specs.declared.scan.FoundKey.{FoundKey}
use Rattle.cedar_scan.specs.declared.state.ListedKey.{ListedKey}
use Rattle.cedar_scan.specs.declared.state.State.{State}

-- the last n of some bytes
abbrev pub last_of : ℕ → List ℕ → List ℕ
last_of n text = drop (length text - n) text

-- what was read of a text, of which a piece came after some bytes
abbrev pub read_of : List ℕ → List ℕ → Cursor → List ℕ
read_of before piece cursor = before ++ take cursor.place piece

-- a scan over a piece of a text that came after some bytes: at the longest suffix of what it has read that leads to a node, with keys that
-- are still to be given, none of which has more bytes than the suffix
pub record IsCursor (t : Tree) (slot_of : List ℕ → ℕ) (keys : List ListedKey) (before piece : List ℕ) (cursor : Cursor) : Type 0 where
  pub within : cursor.place ≤ length piece
  pub state : cursor.state ≡ slot_of (held_suffix t (read_of before piece cursor))
  pub pending : cursor.pending < length keys
  pub short : All (λ (found : ℤ × ℕ). found.1 ≤ length (held_suffix t (read_of before piece cursor))) (keys_from keys cursor.pending)

-- the keys that a scan has still to give, where the piece begins at a position of the text
abbrev pub all_left : Tree → List ListedKey → List ℕ → ℕ → List ℕ → Cursor → List Occurrence
all_left t keys before offset piece cursor =
    map (occurrence_ending (offset + cursor.place)) (keys_from keys cursor.pending)
    ++ all_ending t (read_of before piece cursor) (offset + cursor.place) (drop cursor.place piece)

-- a scan goes on by one byte
pub record ReadsByte (t : Tree) (slot_of : List ℕ → ℕ) (keys : List ListedKey) (before : List ℕ) (offset : ℕ) (piece : List ℕ) (old new : Cursor) : Type 0 where
  pub cursor : IsCursor t slot_of keys before piece new
  pub place : new.place ≡ old.place + 1
  pub ending : keys_from keys new.pending ≡ keys_ending t (read_of before piece new)
  pub spots : all_left t keys before offset piece old ≡ all_left t keys before offset piece new

-- a scan gives a key that ends where it is
pub record GivesFound (t : Tree) (slot_of : List ℕ → ℕ) (keys : List ListedKey) (before : List ℕ) (offset : ℕ) (piece : List ℕ) (old : Cursor) (found : FoundKey) (new : Cursor) : Type 0 where
  pub cursor : IsCursor t slot_of keys before piece new
  pub within : found.len ≤ length before + new.place
  pub spots : all_left t keys before offset piece old ≡ (offset + new.place - found.len, found.len, found.value) ∷ all_left t keys before offset piece new

-- a scan gives the longest key that ends where it is
pub record TakesFound (t : Tree) (slot_of : List ℕ → ℕ) (keys : List ListedKey) (before : List ℕ) (offset : ℕ) (piece : List ℕ) (old : Cursor) (found : FoundKey) (new : Cursor) : Type 0 where
  pub gives : GivesFound t slot_of keys before offset piece old found new
  pub ending : keys_from keys old.pending ≡ (found.value, found.len) ∷ keys_from keys new.pending

-- a scan has nothing left: it has read the piece
pub record IsScanned (t : Tree) (slot_of : List ℕ → ℕ) (keys : List ListedKey) (before : List ℕ) (offset : ℕ) (piece : List ℕ) (old new : Cursor) : Type 0 where
  pub cursor : IsCursor t slot_of keys before piece new
  pub place : new.place ≡ length piece
  pub pending : new.pending ≡ 0
  pub spots : all_left t keys before offset piece old ≡ []
  pub later : all_left t keys before offset piece new ≡ []

-- a byte takes at most two steps, one more for each byte by which the suffix is shorter then, and one less if it is longer by one
abbrev pub CostsStep : Tree → List State → Cursor → Cursor → ℕ → ℕ → Type 0
CostsStep t states old new before after = after + length (path_in t states new.state) ≤ before + length (path_in t states old.state) + 2

-- a scan gives the next key, unless none is left
abbrev pub GivesNext : Tree → (List ℕ → ℕ) → List ListedKey → List ℕ → ℕ → List ℕ → Cursor → Option FoundKey → Cursor → Type 0
GivesNext t slot_of keys before offset piece old next new =
    MatchOption next (IsScanned t slot_of keys before offset piece old new) (λ found. GivesFound t slot_of keys before offset piece old found new)

-- a scan goes on by one byte, whatever bytes came before the piece, and wherever in a text the piece begins
abbrev pub GoesOnByByte : Tree → (List ℕ → ℕ) → List ListedKey → List ℕ → Cursor → Cursor → Type 0
GoesOnByByte t slot_of keys piece old new =
    (before : List ℕ) (offset : ℕ) → IsCursor t slot_of keys before piece old → ReadsByte t slot_of keys before offset piece old new

-- a scan gives the longest key that ends where it is, whatever bytes came before the piece, and wherever in a text the piece begins
abbrev pub GivesPending : Tree → (List ℕ → ℕ) → List ListedKey → List ℕ → Cursor → FoundKey → Cursor → Type 0
GivesPending t slot_of keys piece old found new =
    (before : List ℕ) (offset : ℕ) → IsCursor t slot_of keys before piece old → TakesFound t slot_of keys before offset piece old found new

-- a scan gives the next key, unless none is left, whatever bytes came before the piece, and wherever in a text the piece begins
abbrev pub GivesNextFound : Tree → (List ℕ → ℕ) → List ListedKey → List ℕ → Cursor → Option FoundKey → Cursor → Type 0
GivesNextFound t slot_of keys piece old next new =
    (before : List ℕ) (offset : ℕ) → IsCursor t slot_of keys before piece old → GivesNext t slot_of keys before offset piece old next new

-- how many steps of a scan are still to come at most, beside one for each key
abbrev pub steps_left : Tree → List State → List ℕ → Cursor → ℕ
steps_left t states piece cursor = length (path_in t states cursor.state) + 2 * (length piece - cursor.place)

-- a scan takes no more steps for the next key, or for none, than those by which fewer are still to come (`steps_left`), and one for the key
abbrev pub CostsNext : Tree → List State → List ℕ → Cursor → Option FoundKey → Cursor → ℕ → ℕ → Type 0
CostsNext t states piece old next new before after =
    after + steps_left t states piece new ≤ before + steps_left t states piece old + (if is_some next then 1 else 0)
