-- Where a walk over a range of keys begins in a table.
use Rattle.std.specs.Prelude.{◌≡◌, ◌⊎◌, ℕ, ◌<◌, ◌≤◌, false, true, get_or, List, [], ◌++◌}
use Rattle.std.specs.Prelude.{length, map, MatchOption, Option, take}
use Rattle.cedar_model.specs.Tree.{Forest, has_label}
use Rattle.cedar_model.specs.Queries.{node_at}
use Rattle.cedar_model.specs.Walks.{behind, visited_entries, node_up, Visit}
use Rattle.cedar_model.specs.Walks.{visit_from, visits_below}
use Rattle.cedar_model.specs.Edit.NodeEdits.{IsAt}
use Rattle.cedar_model.specs.Table.TableFields.{Fields}
use Rattle.cedar_model.specs.Meaning.WellFormed.{cells_in, tree_of}
use Rattle.cedar_walk.specs.declared.ranges.Reached.{Reached}
use Rattle.cedar_walk.specs.declared.visits.Place.{Place}
use Rattle.cedar_walk.specs.Visits.{entries_at, first_sibling_label, IsBelow}
use Rattle.cedar_walk.specs.Visits.{left_after, path_to, way_up}
use Rattle.cedar_walk.specs.Ranges.{siblings_above}

-- all of some siblings, or those behind one
abbrev pub AreLast : Forest → Forest → Type 0
AreLast f g = (g ≡ f) ⊎ ((l : ℕ) × (has_label f l ≡ true) × (g ≡ behind f l))

-- the siblings above a label are among some last ones, of which `next` is the first label
pub record AboveFrom (f : Forest) (m next : ℕ) : Type 0 where
  pub rest : Forest
  pub last : AreLast f rest
  pub same : siblings_above f m ≡ siblings_above rest m
  pub first : next ≡ first_sibling_label rest

-- the deepest node on the way along a key
pub record IsReached (T : Fields) (key : List ℕ) (reached : Reached) : Type 0 where
  pub within : reached.depth ≤ length key
  pub at : IsAt (cells_in T) (take reached.depth key) reached.slot
  pub ends : reached.depth < length key → has_label (node_at (tree_of T) (take reached.depth key)).children (get_or key reached.depth 0) ≡ false

-- what a walk has left that goes on below slot s, n labels below the root, above a label: the nodes under labels
-- above it, and those after all below s
abbrev pub left_above : Fields → ℕ → ℕ → ℕ → List Visit
left_above T n s label =
    map (visit_from (path_to T n s)) (visits_below (siblings_above (node_up (tree_of T) (way_up (cells_in T) n s)).children label)) ++ left_after T [] n s

-- a walk that has these nodes left comes to a place below the root: the first of them is there
pub record BeginsAt (T : Fields) (left : List Visit) (place : Place) : Type 0 where
  pub below : IsBelow (cells_in T) [] place.depth place.slot
  pub deep : 0 < place.depth
  pub entries : visited_entries left ≡ entries_at T [] place.depth place.slot

-- a walk comes to the place of the first node of those that it has left, unless none is
abbrev pub BeginsAtFirst : Fields → List Visit → Option Place → Type 0
BeginsAtFirst T left place = MatchOption place (left ≡ []) (BeginsAt T left)
