-- What a script sees of a dictionary, and how storing and removing a key change that.
use Rattle.std.specs.Prelude.{ℕ, ◌+◌, ℤ, Bool, true, false, not, ◌&&◌, ◌||◌, ◌==◌}
use Rattle.std.specs.Prelude.{if◌then◌else◌, List, [], ◌∷◌, length, is_some}
use Rattle.cedarwood.specs.Tree.{Tree, is_bare, number_at}
use Rattle.cedarwood.specs.Queries.{is_path, node_at, prefixes, slots_of_tree, walk}
use Rattle.cedarwood.specs.State.{State, after_put, after_erase}
use Rattle.cedarwood.specs.Layouts.{LayoutKind, default_layout, reduced_layout}
use Rattle.cedarwood.specs.Dictionary.{Dictionary, some_numbers}

-- what a script sees of a dictionary
pub record View : Type 0 where
  -- its layout
  pub layout : LayoutKind
  -- its tree, and whether labels ascend
  pub state : State
  -- the tree of marks
  pub marked : Tree

-- the tree of marks as a script sees it: by default each number has a slot of its own
abbrev pub marked_in : LayoutKind → Dictionary → Tree
marked_in default_layout d = d.state.tree
marked_in reduced_layout d = d.marked

-- what a script sees of a dictionary of a layout
abbrev pub view_of : LayoutKind → Dictionary → View
view_of layout d = record { layout = layout; state = d.state; marked = marked_in layout d }

-- how many slots are held in a layout: one for the root, one for each prefix of the tree, and one for each number
-- that has a slot of its own, which by default is each
abbrev pub slots_in : LayoutKind → View → ℕ
slots_in default_layout s = slots_of_tree s.state.tree
slots_in reduced_layout s = 1 + length (prefixes s.state.tree) + length (walk s.marked)

-- how many slots are held of what is seen
abbrev pub slots_held : View → ℕ
slots_held s = slots_in s.layout s

-- the tree of marks: by default all numbers of a tree, and else those whose paths pass a test
abbrev pub marked_by : LayoutKind → (List ℕ → Bool) → Tree → Tree
marked_by default_layout test t = t
marked_by reduced_layout test t = some_numbers test t

-- this state, with marks at the numbers whose paths pass a test
abbrev pub with_state : View → (List ℕ → Bool) → State → View
with_state s test state = record { layout = s.layout; state = state; marked = marked_by s.layout test state.tree }

-- whether the number at a path has a slot of its own
abbrev pub has_slot : View → List ℕ → Bool
has_slot s path = is_some (number_at s.marked path)

-- whether a path is held
abbrev pub holds_path : View → List ℕ → Bool
holds_path s path = is_some (number_at s.state.tree path)

-- whether a path is a front of a key, and shorter
abbrev pub is_proper_front : List ℕ → List ℕ → Bool
is_proper_front path [] = false
is_proper_front [] (b ∷ key) = true
is_proper_front (a ∷ path) (b ∷ key) = a == b && is_proper_front path key

-- whether a path has a node
abbrev pub has_node : Tree → List ℕ → Bool
has_node t path = not (is_bare (node_at t path))

-- whether the number at a path has a slot of its own once a key is stored. Over a number none moves. Else the numbers
-- that have slots keep them, those of the new key's held proper fronts move into slots, and the new number is put
-- into one if longer keys are held
abbrev pub has_slot_beside : View → List ℕ → List ℕ → Bool
has_slot_beside s key path =
    if holds_path s key then has_slot s path
    else has_slot s path || ((is_proper_front path key && holds_path s path) || (is_path path key && has_node s.state.tree key))

-- what is seen once a key is stored
abbrev pub put_in : View → List ℕ → ℤ → View
put_in s key v = with_state s (has_slot_beside s key) (after_put s.state key v)

-- what is seen once a key is removed
abbrev pub cut_in : View → List ℕ → View
cut_in s key = with_state s (λ path. not (is_path path key) && has_slot s path) (after_erase s.state key)
