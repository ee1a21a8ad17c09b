-- What calls say of one node of a table.
use Rattle.std.specs.Prelude.{◌≡◌, ◌<◌, ℕ, false, List, MatchOption, None, Option}
use Rattle.cedar_model.specs.Tree.{empty_tree, has_label, number_at, subtree, Tree}
use Rattle.cedar_model.specs.Edits.{HasPath}
use Rattle.cedar_model.specs.Queries.{node_at}
use Rattle.cedar_model.specs.Edit.NodeEdits.{IsAt}
use Rattle.cedar_model.specs.Meaning.Family.{Family, Head}
use Rattle.cedar_model.specs.Meaning.StandsFor.{Stands}
use Rattle.cedar_model.specs.Meaning.WellFormed.{cells_in, tree_of}
use Rattle.cedar_model.specs.Table.TableFields.{Fields, size_of}

-- P holds of whatever tree slot s represents
abbrev pub OfNode : Fields → ℕ → (Tree → Type 0) → Type 0
OfNode T s P = (t : Tree) → Stands (size_of T) (cells_in T) s t → P t

-- P holds of the head and the labels of whatever family slot s has (`Family`)
abbrev pub OfFamily : Fields → ℕ → (Head → List ℕ → Type 0) → Type 0
OfFamily T s P = (h : Head) (ls : List ℕ) → Family (size_of T) (cells_in T) s h ls → P h ls

-- slot s is in use, and represents the tree t
abbrev pub HasTree : Fields → ℕ → Tree → Type 0
HasTree T s t = (s < size_of T) × Stands (size_of T) (cells_in T) s t

-- a result is the slot of the child that the node of the tree t has under a label, or none where it has no such child
abbrev pub FindsChild : Fields → ℕ → Option ℕ → Tree → Type 0
FindsChild T label result t =
    MatchOption result (has_label t.children label ≡ false) (λ s. HasTree T s (subtree t.children label))

-- the tree has no number at a path, and nothing below it
abbrev pub IsEmptyAt : Tree → List ℕ → Type 0
IsEmptyAt t w = (number_at t w ≡ None) × (node_at t w ≡ empty_tree)

-- slot s, which is in use, is that of the tree's node at the path w
abbrev pub IsNodeAt : Fields → List ℕ → ℕ → Type 0
IsNodeAt T w s = (s < size_of T) × HasPath (tree_of T) w × IsAt (cells_in T) w s
