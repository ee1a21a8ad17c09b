-- What steps of a walk require of a table, each as one fact: a caller that has it hands it on.
use Rattle.std.specs.Prelude.{◌≡◌, ◌≢◌, ◌<◌, ◌-◌, ◌++◌, ◌∷◌, ℕ, ℤ, [], List, Some, true}
use Rattle.cedar_model.specs.Tree.{has_label, Tree}
use Rattle.cedar_model.specs.Queries.{node_at}
use Rattle.cedar_model.specs.Table.TableFields.{Fields, size_of}
use Rattle.cedar_model.specs.Edit.NodeEdits.{IsAt}
use Rattle.cedar_model.specs.Meaning.Family.{below}
use Rattle.cedar_model.specs.Meaning.StandsFor.{Stands}
use Rattle.cedar_model.specs.Meaning.WellFormed.{cells_in, IsWellFormed, tree_of}
use Rattle.cedar_walk.specs.declared.pending.PendingSibling.{PendingSibling}
use Rattle.cedar_walk.specs.Pending.{IsPending}
use Rattle.cedar_walk.specs.Visits.{first_sibling_label, IsBelow, owner_of}

-- the slot is a node that has a number
pub record HoldsNumber (T : Fields) (node : ℕ) : Type 0 where
  pub node_in : node < size_of T
  pub held : (t : Tree) × (v : ℤ) × Stands (size_of T) (cells_in T) node t × (t.number ≡ Some v)

-- the slot is a node under a label
pub record StandsUnder (slots : ℕ) (T : Fields) (node : ℕ) : Type 0 where
  pub well_formed : IsWellFormed slots T
  pub at : (w : List ℕ) × (l : ℕ) × IsAt (cells_in T) (w ++ l ∷ []) node

-- the slot is a node that has a child under the label
pub record HasChildUnder (slots : ℕ) (T : Fields) (node label : ℕ) : Type 0 where
  pub well_formed : IsWellFormed slots T
  pub at : (w : List ℕ) × IsAt (cells_in T) w node × (has_label (node_at (tree_of T) w).children label ≡ true)

-- a walk has come to a node other than the root
pub record GoesOnBelow (slots : ℕ) (T : Fields) (node depth : ℕ) : Type 0 where
  pub well_formed : IsWellFormed slots T
  pub below : (start : List ℕ) × IsBelow (cells_in T) start depth node
  pub not_root : node ≢ 0

-- a walk has come to a node other than the root, and has kept these siblings
pub record GoesOnPending (slots : ℕ) (T : Fields) (node depth : ℕ) (siblings : List PendingSibling) : Type 0 where
  pub well_formed : IsWellFormed slots T
  pub below : (start : List ℕ) × IsBelow (cells_in T) start depth node
  pub not_root : node ≢ 0
  pub kept : IsPending T siblings depth node

-- a walk has come to a node under a label, and has kept these siblings for the node above it
pub record MayKeep (slots : ℕ) (T : Fields) (node depth l : ℕ) (siblings : List PendingSibling) : Type 0 where
  pub well_formed : IsWellFormed slots T
  pub at : (start : List ℕ) × IsBelow (cells_in T) start depth node
  pub deep : 0 < depth
  pub label : l ≡ below (cells_in T) (owner_of (cells_in T) node) node
  pub kept : IsPending T siblings (depth - 1) (owner_of (cells_in T) node)

-- a walk has been at a node whose first child has this label, and has kept these siblings
pub record GoesOnWith (slots : ℕ) (T : Fields) (node depth label : ℕ) (siblings : List PendingSibling) : Type 0 where
  pub well_formed : IsWellFormed slots T
  pub below : (start : List ℕ) × IsBelow (cells_in T) start depth node
  pub first : (w : List ℕ) → IsAt (cells_in T) w node → label ≡ first_sibling_label (node_at (tree_of T) w).children
  pub kept : IsPending T siblings depth node
