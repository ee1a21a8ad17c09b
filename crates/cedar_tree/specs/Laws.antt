-- Words in which the laws of the tree are said.
use Rattle.std.specs.Prelude.{◌≡◌, ◌⊎◌, ℕ, ◌+◌, ◌&&◌, if◌then◌else◌, List, [], ◌∷◌, ◌++◌, map}
use Rattle.std.specs.List.{Contains, AllByRecursion}
use Rattle.std.specs.List.Sorted.{IsStrictlySortedBy}
use Rattle.std.specs.Cmp.Lexicographic.{slice_cmp}
use Rattle.std.specs.Ordering.{nat_cmp}
use Rattle.cedar_tree.specs.Tree.{Tree, has_label, subtree, is_bare, cut, IsKey}
use Rattle.cedar_tree.specs.Tree.{IsSound, IsAscending}
use Rattle.cedar_tree.specs.Queries.{Entry, walk}

-- the paths of some pairs ascend by bytes, each below those after it
abbrev pub ArePathsAscending : List Entry → Type 0
ArePathsAscending pairs = IsStrictlySortedBy (slice_cmp nat_cmp) (map (λ pair. pair.0) pairs)

-- the path of each pair is a key
abbrev pub ArePathsKeys : List Entry → Type 0
ArePathsKeys pairs = AllByRecursion (λ pair. IsKey pair.0) pairs

-- the tree of some pairs: it is sound, its labels ascend, and its walk is the pairs
abbrev pub IsTreeOf : List Entry → Tree → Type 0
IsTreeOf pairs t = IsSound t × IsAscending t.children × (walk t ≡ pairs)

-- x is in a list, and y later in it
abbrev pub ComesBefore : {X : Type 0} → List X → X → X → Type 0
ComesBefore {X} xs x y = (before : List X) × (after : List X) × (xs ≡ before ++ x ∷ after) × Contains after y

-- xs has some members of ys, in their order
abbrev pub IsPartOf : {X : Type 0} → List X → List X → Type 0
IsPartOf [] ys = Unit {0}
IsPartOf (x ∷ xs) [] = ⊥
IsPartOf (x ∷ xs) (y ∷ ys) = ((x ≡ y) × IsPartOf xs ys) ⊎ IsPartOf (x ∷ xs) ys

-- how many nodes of a path a tree doesn't have: its fronts, but the empty one, that lead to no node
abbrev pub missing_nodes : Tree → List ℕ → ℕ
missing_nodes t [] = 0
missing_nodes t (label ∷ path) =
    (if has_label t.children label then 0 else 1) + missing_nodes (subtree t.children label) path

-- the fronts of a path, shortest first, without the empty one
abbrev pub fronts : List ℕ → List (List ℕ)
fronts [] = []
fronts (label ∷ path) = (label ∷ []) ∷ map (λ p. label ∷ p) (fronts path)

-- how many nodes of a path have neither number nor child, once a cut has taken the number at its end and the nodes
-- further down
abbrev pub bare_nodes : Tree → List ℕ → ℕ
bare_nodes t [] = 0
bare_nodes t (label ∷ path) =
    (if has_label t.children label && is_bare (cut (subtree t.children label) path) then 1 else 0)
    + bare_nodes (subtree t.children label) path
