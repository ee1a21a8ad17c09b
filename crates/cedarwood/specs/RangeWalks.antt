-- How far walks over the entries of a range are in a table.
use Rattle.std.specs.Prelude.{◌≡◌, Bool, false, true, ℕ, List, [], ◌∷◌, ◌++◌, filter, map}
use Rattle.std.specs.Prelude.{MatchOption, None, Option, Some}
use Rattle.std.specs.Cmp.Lexicographic.{slice_cmp}
use Rattle.std.specs.Ordering.{is_ge, is_lt, nat_cmp}
use Rattle.cedar_tree.specs.Tree.{Tree}
use Rattle.cedar_tree.specs.State.{State}
use Rattle.cedar_tree.specs.Queries.{Entry}
use Rattle.cedar_tree.specs.Walks.{visited_entries}
use Rattle.cedar_model.specs.Table.TableFields.{Fields}
use Rattle.cedar_walk.specs.declared.visits.Numbered.{Numbered}
use Rattle.cedar_walk.specs.Visits.{IsNumberedBelow, left_at, path_to}
use Rattle.cedar_walk.specs.Ranges.{behind_path, entries_since}

-- the entries that a walk below the path `start` has left: that of the node `next`, and those behind it
abbrev pub entries_left : Fields → List ℕ → Option Numbered → List Entry
entries_left T start None = []
entries_left T start (Some next) =
    (start ++ path_to T next.depth next.slot, next.number) ∷ map (behind_path start) (visited_entries (left_at T start next.depth next.slot))

-- the node that a walk over a range comes to next is there, and has a number
abbrev pub IsRangePlace : Fields → List ℕ → Option Numbered → Type 0
IsRangePlace T start None = Unit {0}
IsRangePlace T start (Some next) = IsNumberedBelow T start next.depth next.slot

-- of `entries_since t from` the entries before `to`
abbrev pub entries_between : Tree → List ℕ → List ℕ → List Entry
entries_between t from to = filter (λ e. is_lt (slice_cmp nat_cmp e.0 to)) (entries_since t from)

-- the entries of a range are given if labels ascend, and nothing if they don't
abbrev pub GivesRange : State → List Entry → Option (List Entry) → Type 0
GivesRange s range given = MatchOption given (s.ordered ≡ false) (λ entries. (s.ordered ≡ true) × (entries ≡ range))

-- the entries of a range between two keys are given if labels ascend, and nothing if they don't
abbrev pub GivesBetween : State → List ℕ → List ℕ → Option (List Entry) → Type 0
GivesBetween s from to given = GivesRange s (entries_between s.tree from to) given

-- whether a path comes before the bound of a walk, or the walk has none
abbrev pub precedes_end : Option (List ℕ) → List ℕ → Bool
precedes_end None w = true
precedes_end (Some to) w = is_lt (slice_cmp nat_cmp w to)

-- whether a path is the bound of a walk or comes after it
abbrev pub follows_end : Option (List ℕ) → List ℕ → Bool
follows_end None w = false
follows_end (Some to) w = is_ge (slice_cmp nat_cmp w to)

-- what a walk below the path `start` has left that comes before the bound, if there is one
abbrev pub entries_left_before : Fields → List ℕ → Option (List ℕ) → Option Numbered → List Entry
entries_left_before T start to next = filter (λ e. precedes_end to e.0) (entries_left T start next)

-- the walk ends at the node `end`, whose entry is the first one at the bound or after it
abbrev pub IsEnd : Fields → List ℕ → Option (List ℕ) → Option Numbered → Option Numbered → Type 0
IsEnd T start to next end = filter (λ e. follows_end to e.0) (entries_left T start next) ≡ entries_left T start end
