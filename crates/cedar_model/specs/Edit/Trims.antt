-- A bare node taken away, and each above it that is left bare.
use Rattle.std.specs.Prelude.{◌≡◌, ℕ, List, [], ◌∷◌, ◌++◌, Bool, cond, false, nat_eq}
use Rattle.cedar_tree.specs.Tree.{Forest, is_bare}
use Rattle.cedar_tree.specs.Queries.{node_at}
use Rattle.cedar_tree.specs.Edits.{without_leaf}
use Rattle.cedar_model.specs.Table.Cells.{Cells}
use Rattle.cedar_model.specs.Edit.NodeEdits.{IsAt}
use Rattle.cedar_model.specs.Meaning.StandsFor.{HoldsTree}
use Rattle.cedar_model.specs.Edit.Steps.{root_of}

-- the result says whether the node at slot a, below the root, is bare
abbrev pub TellsBare : ℕ → Cells → ℕ → Bool → Type 0
TellsBare size T a answer = (f : Forest) (w : List ℕ) → HoldsTree size T f → IsAt T w a → answer ≡ cond (nat_eq a 0) false (is_bare (node_at (root_of f) w))

-- the slots hold the tree f without the leaf at the path w, and the node above that leaf is at slot a
pub record LosesLeaf (size : ℕ) (T : Cells) (f : Forest) (w : List ℕ) (a : ℕ) : Type 0 where
  pub path : List ℕ
  pub label : ℕ
  pub is : w ≡ path ++ label ∷ []
  pub holds : HoldsTree size T (without_leaf (root_of f) path label).children
  pub at : IsAt T path a
