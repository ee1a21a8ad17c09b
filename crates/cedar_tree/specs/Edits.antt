-- Changes of one node of a tree, by which a put and a cut go along a path.
use Rattle.std.specs.Prelude.{◌≡◌, ℕ, ℤ, Bool, true, ◌==◌, if◌then◌else◌, List, []}
use Rattle.std.specs.Prelude.{◌∷◌, Option, Some, None}
use Rattle.cedar_tree.specs.Tree.{Forest, none, child, Tree, empty_tree, has_label}
use Rattle.cedar_tree.specs.Tree.{insert_ascending, subtree, without}

-- the number of the node itself, where the path ends at it
abbrev pub number_on : List ℕ → (Option ℤ → Option ℤ) → Option ℤ → Option ℤ
number_on [] number n = number n
number_on (_ ∷ _) number n = n

-- the children f of a node after a change of the node at the end of the path: its number by the one function, and its
-- children by the other; the node itself has no number here
abbrev pub edit_at : List ℕ → (Option ℤ → Option ℤ) → (Forest → Forest) → Forest → Forest
edit_at [] number children f = children f
edit_at (l ∷ path) number children none = none
edit_at (l ∷ path) number children (child m n below rest) =
    if m == l then child m (number_on path number n) (edit_at path number children below) rest
    else child m n below (edit_at (l ∷ path) number children rest)

-- a new child with neither number nor child: at its ascending place if ordered, and first if not
abbrev pub add_leaf : Bool → ℕ → Forest → Forest
add_leaf ordered label f = if ordered then insert_ascending f label empty_tree else child label None none f

-- the tree has each node of a path
abbrev pub HasPath : Tree → List ℕ → Type 0
HasPath t [] = Unit {0}
HasPath t (label ∷ path) = (has_label t.children label ≡ true) × HasPath (subtree t.children label) path

-- the tree with a new leaf under the node at a path
abbrev pub with_leaf : Tree → Bool → List ℕ → ℕ → Tree
with_leaf t ordered path label = record { number = t.number; children = edit_at path (λ n. n) (add_leaf ordered label) t.children }

-- the tree without the child at a label of the node at a path
abbrev pub without_leaf : Tree → List ℕ → ℕ → Tree
without_leaf t path label = record { number = t.number; children = edit_at path (λ n. n) (λ f. without f label) t.children }

-- the tree with the number v at a path below its root, whose nodes it has
abbrev pub with_number : Tree → List ℕ → ℤ → Tree
with_number t path v = record { number = t.number; children = edit_at path (λ _. Some v) (λ f. f) t.children }

-- the tree without the number at a path below its root
abbrev pub without_number : Tree → List ℕ → Tree
without_number t path = record { number = t.number; children = edit_at path (λ _. None) (λ f. f) t.children }
