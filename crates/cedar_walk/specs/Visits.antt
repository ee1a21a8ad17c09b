-- How far a walk over the nodes of a tree is in a table.
use Rattle.std.specs.Prelude.{◌≡◌, ℕ, ℤ, zero, suc, ◌+◌, ◌-◌, ◌<◌, ◌≤◌, List, [], ◌∷◌, ◌++◌, length}
use Rattle.std.specs.Prelude.{MatchOption, Option, Some, take, unsigned_abs}
use Rattle.cedar_model.specs.Tree.{Forest, none, child, Tree}
use Rattle.cedar_model.specs.Queries.{Entry, node_at}
use Rattle.cedar_model.specs.Walks.{behind, Visit, visited_entries, forwards}
use Rattle.cedar_model.specs.Walks.{visits_after, visits_left}
use Rattle.cedar_walk.specs.declared.visits.Numbered.{Numbered}
use Rattle.cedar_walk.specs.declared.visits.Place.{Place}
use Rattle.cedar_walk.specs.declared.visits.Visited.{Visited}
use Rattle.cedar_model.specs.Table.Cells.{Cells}
use Rattle.cedar_model.specs.Meaning.Family.{below}
use Rattle.cedar_model.specs.Edit.NodeEdits.{IsAt}
use Rattle.cedar_model.specs.Table.TableFields.{Fields}
use Rattle.cedar_model.specs.Meaning.WellFormed.{cells_in, tree_of}

-- the slot that owns slot s, by its check
abbrev pub owner_of : Cells → ℕ → ℕ
owner_of T s = unsigned_abs (T.check s)

-- the last n labels on the way to slot s, from the last one to the first, as they are read by climbing n checks
abbrev pub way_up : Cells → ℕ → ℕ → List ℕ
way_up T zero s = []
way_up T (suc n) s = below T (owner_of T s) s ∷ way_up T n (owner_of T s)

-- slot s is a node, n labels below the one at the path `start`. Its path is read by climbing n checks (`way_up`,
-- `path_to`)
abbrev pub IsBelow : Cells → List ℕ → ℕ → ℕ → Type 0
IsBelow T start n s = IsAt T (start ++ forwards (way_up T n s)) s

-- the first label of some siblings, or 0 if there is none
abbrev pub first_sibling_label : Forest → ℕ
first_sibling_label none = 0
first_sibling_label (child l n below rest) = l

-- the label of the sibling after the child under label l of the node at the path w, or 0 if there is none
abbrev pub label_after : Tree → List ℕ → ℕ → ℕ
label_after t w l = first_sibling_label (behind (node_at t w).children l)

-- what a walk below the path `start` has left that has been at slot s, n labels below, and not yet below it
abbrev pub left_at : Fields → List ℕ → ℕ → ℕ → List Visit
left_at T start n s = visits_left (node_at (tree_of T) start) (way_up (cells_in T) n s)

-- what a walk below the path `start` has left that is through with all below slot s, n labels below
abbrev pub left_after : Fields → List ℕ → ℕ → ℕ → List Visit
left_after T start n s = visits_after (node_at (tree_of T) start) (way_up (cells_in T) n s)

-- the path to slot s from the node n labels above it
abbrev pub path_to : Fields → ℕ → ℕ → List ℕ
path_to T n s = forwards (way_up (cells_in T) n s)

-- a walk below the path `start` that has these nodes left comes to the first of them, whose path has one label of its
-- own behind a front of the path before
pub record ComesTo (T : Fields) (start : List ℕ) (left : List Visit) (path : List ℕ) (next : Visited) : Type 0 where
  pub below : IsBelow (cells_in T) start next.depth next.slot
  pub visits : left ≡ (path_to T next.depth next.slot, next.number) ∷ left_at T start next.depth next.slot
  pub way : path_to T next.depth next.slot ≡ take (next.depth - 1) path ++ next.label ∷ []
  pub deep : (0 < next.depth) × (next.depth ≤ length path + 1)

-- the number of the node at slot s, n labels below the path `start`, if it has one
abbrev pub number_below : Fields → List ℕ → ℕ → ℕ → Option ℤ
number_below T start n s = (node_at (tree_of T) (start ++ path_to T n s)).number

-- slot s is a node, n labels below the path `start`, and has a number
abbrev pub IsNumberedBelow : Fields → List ℕ → ℕ → ℕ → Type 0
IsNumberedBelow T start n s = IsBelow (cells_in T) start n s × (v : ℤ) × (number_below T start n s ≡ Some v)

-- the node at a place below the path `start`, with its number
abbrev pub visited_at : Fields → List ℕ → Place → Visited
visited_at T start place = record {
  slot = place.slot;
  depth = place.depth;
  label = place.label;
  number = number_below T start place.depth place.slot;
}

-- the entries that a walk below the path `start` has left that has come to slot s, n labels below, and not yet been
-- at it
abbrev pub entries_at : Fields → List ℕ → ℕ → ℕ → List Entry
entries_at T start n s = visited_entries ((path_to T n s, number_below T start n s) ∷ left_at T start n s)

-- a walk below the path `start` that has these entries left comes to a node with a number, that of the first of them
pub record ComesToNumber (T : Fields) (start : List ℕ) (left : List Entry) (next : Numbered) : Type 0 where
  pub below : IsBelow (cells_in T) start next.depth next.slot
  pub number : number_below T start next.depth next.slot ≡ Some next.number
  pub entries : left ≡ (path_to T next.depth next.slot, next.number) ∷ visited_entries (left_at T start next.depth next.slot)

-- ---- the steps of a walk, which may have begun at any node above

-- a walk that has been at slot s, n labels below the node where it began, goes to the next node, unless none is left
abbrev pub GoesToNode : Fields → ℕ → ℕ → Option Visited → Type 0
GoesToNode T n s next =
    (start : List ℕ) → IsBelow (cells_in T) start n s
    → MatchOption next (left_at T start n s ≡ []) (ComesTo T start (left_at T start n s) (path_to T n s))

-- a walk that has been at slot s, n labels below the node where it began, leaves out all below s and goes to the next
-- node, unless none is left
abbrev pub SkipsToNode : Fields → ℕ → ℕ → Option Visited → Type 0
SkipsToNode T n s next =
    (start : List ℕ) → IsBelow (cells_in T) start n s
    → MatchOption next (left_after T start n s ≡ []) (ComesTo T start (left_after T start n s) (path_to T n s))

-- a walk goes to the place of the first node of those that it has left, unless none is left
abbrev pub GoesToPlace : (Fields → List ℕ → ℕ → ℕ → List Visit) → Fields → ℕ → ℕ → Option Place → Type 0
GoesToPlace left T n s next =
    (start : List ℕ) → IsBelow (cells_in T) start n s
    → MatchOption next (left T start n s ≡ []) (λ place. ComesTo T start (left T start n s) (path_to T n s) (visited_at T start place))

-- a walk below the path `start` comes to the first of these entries, unless there is none
abbrev pub ComesToFirst : Fields → List ℕ → List Entry → Option Numbered → Type 0
ComesToFirst T start left next = MatchOption next (left ≡ []) (ComesToNumber T start left)

-- a walk that has been at slot s, n labels below the node where it began, goes to the next node with a number, unless
-- none is left
abbrev pub GoesToNumber : Fields → ℕ → ℕ → Option Numbered → Type 0
GoesToNumber T n s next =
    (start : List ℕ) → IsBelow (cells_in T) start n s → ComesToFirst T start (visited_entries (left_at T start n s)) next

-- a walk that has come to slot s, n labels below the node where it began, goes to the first node with a number from s
-- on
abbrev pub FindsNumber : Fields → ℕ → ℕ → Numbered → Type 0
FindsNumber T n s next = (start : List ℕ) → IsBelow (cells_in T) start n s → ComesToNumber T start (entries_at T start n s) next
