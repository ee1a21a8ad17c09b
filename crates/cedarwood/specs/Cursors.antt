-- How far cursors over the entries of a range are in a table, and what a caller sees of them.
use Rattle.std.specs.Prelude.{◌≡◌, ℕ, ℤ, List, [], ◌∷◌, ◌++◌, filter, map}
use Rattle.std.specs.Prelude.{MatchOption, None, Option, Some}
use Rattle.std.specs.Coded.{Coded, code_by, coded×, coded_ℕ, coded_ℤ, coded_list}
use Rattle.std.proofs.Common.{refl}
use Rattle.cedar_tree.specs.Queries.{Entry}
use Rattle.cedar_tree.specs.Walks.{visited_entries}
use Rattle.cedar_model.specs.Table.TableFields.{Fields}
use Rattle.cedar_walk.specs.declared.visits.Numbered.{Numbered}
use Rattle.cedar_walk.specs.Visits.{IsNumberedBelow, left_at, path_to}
use Rattle.cedar_walk.specs.Ranges.{behind_path}
use Rattle.cedarwood.specs.declared.queries.cursor.CursorPlace.{CursorPlace}
use Rattle.cedarwood.specs.declared.queries.cursor.CursorPlace.TheVariants.{At, Before, End}
use Rattle.cedarwood.specs.RangeWalks.{entries_left, follows_end, IsRangePlace, precedes_end}

-- what is seen of a cursor over a range: the key that it holds, the entries that it has left, and how many bytes its
-- buffer has room for
pub record Cursor : Type 0 where
  pub key : List ℕ
  pub left : List Entry
  pub room : ℕ

-- a cursor as plain data, for `impl Model` alone
abbrev pub cursor_code : Coded Cursor
cursor_code =
    code_by (List ℕ × (List (List ℕ × ℤ) × ℕ)) (coded× (coded_list coded_ℕ) (coded× (coded_list (coded× (coded_list coded_ℕ) coded_ℤ)) coded_ℕ))
    (λ c. (c.key, (c.left, c.room)))
    (λ p. record { key = p.0; left = p.1.0; room = p.1.1 })
    (λ _. refl)

-- a cursor gives the first of the entries that it has left, and then holds its key and has the others left; or none is
-- left
abbrev pub GivesEntry : Cursor → Cursor → Option ℤ → Type 0
GivesEntry old new found = MatchOption found ((old.left ≡ []) × (new.left ≡ [])) (λ value. old.left ≡ (new.key, value) ∷ new.left)

-- the place of a cursor before it comes to the node of its first entry, if there is one
abbrev pub place_before : Option Numbered → CursorPlace
place_before None = End
place_before (Some next) = Before next

-- the place of a cursor that has come to a node, if there was one
abbrev pub place_at : Option Numbered → CursorPlace
place_at None = End
place_at (Some next) = At next.slot next.depth

-- the entries that a walk below the path `start` has left at a place
abbrev pub cursor_entries : Fields → List ℕ → CursorPlace → List Entry
cursor_entries T start (Before next) = entries_left T start (Some next)
cursor_entries T start (At slot depth) = map (behind_path start) (visited_entries (left_at T start depth slot))
cursor_entries T start End = []

-- a cursor is at a node with a number, whose key it holds once it was there
abbrev pub IsCursorPlace : Fields → List ℕ → List ℕ → CursorPlace → Type 0
IsCursorPlace T start key (Before next) = IsNumberedBelow T start next.depth next.slot
IsCursorPlace T start key (At slot depth) = IsNumberedBelow T start depth slot × (key ≡ start ++ path_to T depth slot)
IsCursorPlace T start key End = Unit {0}

-- the entries that a cursor has left: those of its walk that are before the bound
abbrev pub cursor_left : Fields → List ℕ → Option (List ℕ) → CursorPlace → List Entry
cursor_left T start to place = filter (λ e. precedes_end to e.0) (cursor_entries T start place)

-- the node where the cursor ends: that of the first entry at the bound or after it, as `IsEnd` says
abbrev pub IsCursorEnd : Fields → List ℕ → Option (List ℕ) → CursorPlace → Option Numbered → Type 0
IsCursorEnd T start to place end = filter (λ e. follows_end to e.0) (cursor_entries T start place) ≡ entries_left T start end

-- from a place the walk comes to a node, that of the first entry that it has left, or nothing is left
abbrev pub FindsNext : Fields → List ℕ → CursorPlace → Option Numbered → Type 0
FindsNext T start place found = (cursor_entries T start place ≡ entries_left T start found) × IsRangePlace T start found

-- the walk comes to a node (`FindsNext`), and the key that the cursor holds is that node's
pub record WritesNextKey (T : Fields) (start : List ℕ) (place : CursorPlace) (key : List ℕ) (found : Option Numbered) : Type 0 where
  pub finds : FindsNext T start place found
  pub stands : IsCursorPlace T start key (place_at found)

-- nothing is left before the end: no node is left, or the next one is that where the walk ends
abbrev pub IsAtEnd : Option Numbered → Option Numbered → Type 0
IsAtEnd found end = MatchOption found (Unit {0}) (λ next. (last : Numbered) × (end ≡ Some last) × (last.slot ≡ next.slot))

-- the next node isn't the one where the walk ends
abbrev pub IsShortOf : Option Numbered → Numbered → Type 0
IsShortOf end next = (last : Numbered) → end ≡ Some last → next.slot ≡ last.slot → ⊥
