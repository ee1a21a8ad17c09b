-- The laws by which puts, cuts and walks go along a path one node at a time, each as a statement. Functions of this crate have them as
-- their contracts.
use Rattle.std.specs.Prelude.{◌≡◌, ℕ, ℤ, Bool, true, false, List, [], ◌∷◌, ◌++◌, ◌⊎◌, length, map}
use Rattle.std.specs.Prelude.{Option, None}
use Rattle.cedar_tree.specs.Tree.{Forest, child, Tree, empty_tree, has_label, subtree, number_at, put}
use Rattle.cedar_tree.specs.Tree.{is_bare, without, cut, IsSoundBelow, IsAscending}
use Rattle.cedar_tree.specs.Queries.{node_at, predict}
use Rattle.cedar_tree.specs.Edits.{HasPath, with_leaf, without_leaf, without_number}
use Rattle.cedar_tree.specs.Walks.{behind, forwards, node_up, tree_visits, visited_entries}
use Rattle.cedar_tree.specs.Walks.{visits_after, visits_left}

-- the node that a leaf was taken from lacks its label, and is otherwise as it was
abbrev pub CutLeafChangesItsNode : Type 0
CutLeafChangesItsNode =
    (t : Tree) (w : List ℕ) (l : ℕ) → HasPath t w
    → node_at (without_leaf t w l) w ≡ record { number = (node_at t w).number; children = without (node_at t w).children l }

-- the node whose number was dropped has none, and is otherwise as it was
abbrev pub CutNumberChangesItsNode : Type 0
CutNumberChangesItsNode =
    (t : Tree) (l : ℕ) (path : List ℕ) → HasPath t (l ∷ path)
    → node_at (without_number t (l ∷ path)) (l ∷ path) ≡ record { number = None; children = (node_at t (l ∷ path)).children }

-- a put makes the same tree if the next missing node of its path was first added as a bare leaf
abbrev pub PutAddsLeaf : Type 0
PutAddsLeaf =
    (t : Tree) (ordered : Bool) (w : List ℕ) (l : ℕ) (rest : List ℕ) (v : ℤ) → HasPath t w → has_label (node_at t w).children l ≡ false
    → put (with_leaf t ordered w l) ordered (w ++ l ∷ rest) v ≡ put t ordered (w ++ l ∷ rest) v

-- a cut makes the same tree if a bare node of its path was first taken from a parent that has its label once
abbrev pub CutTakesLeaf : Type 0
CutTakesLeaf =
    (t : Tree) (w : List ℕ) (l : ℕ) (rest : List ℕ) → is_bare (subtree (node_at t w).children l) ≡ true
    → has_label (without (node_at t w).children l) l ≡ false → cut (without_leaf t w l) (w ++ l ∷ rest) ≡ cut t (w ++ l ∷ rest)

-- a cut changes nothing if its path leaves the tree at the root, or at a node that isn't bare
abbrev pub CutEndsAbove : Type 0
CutEndsAbove =
    (t : Tree) (w : List ℕ) (l : ℕ) (rest : List ℕ) → (w ≡ []) ⊎ (is_bare (node_at t w) ≡ false)
    → has_label (node_at t w).children l ≡ false → cut t (w ++ l ∷ rest) ≡ t

-- a new leaf is at the end of its path
abbrev pub LeafHasPath : Type 0
LeafHasPath =
    (t : Tree) (ordered : Bool) (w : List ℕ) (l : ℕ) → HasPath t w → has_label (node_at t w).children l ≡ false
    → HasPath (with_leaf t ordered w l) (w ++ l ∷ [])

-- a new leaf is bare
abbrev pub LeafIsBare : Type 0
LeafIsBare =
    (t : Tree) (ordered : Bool) (w : List ℕ) (l : ℕ) → HasPath t w → has_label (node_at t w).children l ≡ false
    → node_at (with_leaf t ordered w l) (w ++ l ∷ []) ≡ empty_tree

-- a new leaf brings no number
abbrev pub LeafKeepsNumbers : Type 0
LeafKeepsNumbers =
    (t : Tree) (ordered : Bool) (w : List ℕ) (l : ℕ) (q : List ℕ) → HasPath t w → has_label (node_at t w).children l ≡ false
    → number_at (with_leaf t ordered w l) q ≡ number_at t q

-- a new leaf at its ascending place keeps ascending labels ascending
abbrev pub LeafKeepsAscending : Type 0
LeafKeepsAscending =
    (t : Tree) (w : List ℕ) (l : ℕ) → HasPath t w → has_label (node_at t w).children l ≡ false → IsAscending t.children
    → IsAscending (with_leaf t true w l).children

-- a cut from a new leaf upwards is as if the leaf had never been added
abbrev pub CutForgetsLeaf : Type 0
CutForgetsLeaf =
    (t : Tree) (ordered : Bool) (w : List ℕ) (l : ℕ) (rest : List ℕ) → HasPath t w → has_label (node_at t w).children l ≡ false
    → cut (with_leaf t ordered w l) (w ++ l ∷ rest) ≡ cut t (w ++ l ∷ rest)

-- a walk that is at a node with children goes on to the first of them
abbrev pub WalkGoesDown : Type 0
WalkGoesDown =
    (t : Tree) (up : List ℕ) (l : ℕ) (n : Option ℤ) (below : Forest) (rest : Forest) → (node_up t up).children ≡ child l n below rest
    → visits_left t up ≡ (forwards (l ∷ up), n) ∷ visits_left t (l ∷ up)

-- a walk that is through with a node goes on to its next sibling, among siblings with distinct labels
abbrev pub WalkGoesRight : Type 0
WalkGoesRight =
    (t : Tree) (up : List ℕ) (l : ℕ) (m : ℕ) (n : Option ℤ) (below : Forest) (rest : Forest) → IsSoundBelow (node_up t up).children
    → behind (node_up t up).children l ≡ child m n below rest → visits_after t (l ∷ up) ≡ (forwards (m ∷ up), n) ∷ visits_left t (m ∷ up)

-- from the node of a query on, a walk over all nodes of a sound tree visits what is predicted for the query
abbrev pub WalkVisitsPredicted : Type 0
WalkVisitsPredicted =
    (t : Tree) (q : List ℕ) → IsSoundBelow t.children
    → predict t q ≡ map (λ entry. (entry.1, length entry.0)) (visited_entries (tree_visits (node_at t q)))
