-- The tree that is read from a table's slots.
use Rattle.std.specs.Prelude.{ℕ, zero, suc, ℤ, pos, List, [], ◌∷◌, Bool, Option}
use Rattle.std.specs.Prelude.{Some, None, nat_eq, cond}
use Rattle.std.specs.Ordering.{int_eq}
use Rattle.cedar_tree.specs.Tree.{Forest, none, child, Tree, empty_tree}
use Rattle.cedar_model.specs.declared.layout.Stored.{Stored}
use Rattle.cedar_model.specs.declared.layout.Stored.TheVariants.{AtBase, OwnNumber, Nothing}
use Rattle.cedar_model.specs.Table.Cells.{Cells}
use Rattle.cedar_model.specs.Meaning.Family.{below}

-- whether the node at slot s has a slot for its number
abbrev pub has_number_slot : Cells → ℕ → Bool
has_number_slot T s = int_eq (T.check (below T s 0)) (pos s)

-- the number that a base field says, if it says one
abbrev pub own_number : Stored → Option ℤ
own_number (AtBase b) = None
own_number (OwnNumber v) = Some v
own_number Nothing = None

-- the number of the node at slot s
abbrev pub number_in : Cells → ℕ → Option ℤ
number_in T s = cond (has_number_slot T s) (Some (T.base (below T s 0))) (own_number (T.stored s))

-- the first label of the node at slot s
abbrev pub first_in : Cells → ℕ → ℕ
first_in T s = cond (has_number_slot T s) (T.sibling (below T s 0)) (T.child s)

-- the labels in the chain of slot s from label c on, at most n of them
unfoldable pub chain : ℕ → Cells → ℕ → ℕ → List ℕ
chain zero T s c = []
chain (suc n) T s c = cond (nat_eq c 0) [] (c ∷ chain n T s (T.sibling (below T s c)))

-- siblings with these labels, each with its tree
abbrev pub forest_by : (ℕ → Tree) → List ℕ → Forest
forest_by tree [] = none
forest_by tree (l ∷ ls) = child l (tree l).number (tree l).children (forest_by tree ls)

-- the tree that is read from slot s on, n levels at most
unfoldable pub tree_from : ℕ → Cells → ℕ → Tree
tree_from zero T s = empty_tree
tree_from (suc n) T s = record {
  number = number_in T s;
  children = forest_by (λ l. tree_from n T (below T s l)) (chain 256 T s (first_in T s));
}

-- the tree that is read from the slots of a table, of which `size` are in use: at most 256 labels to a chain, and at
-- most `size` levels
unfoldable pub tree_read : ℕ → Cells → Tree
tree_read size T = record {
  number = None;
  children = forest_by (λ l. tree_from size T (below T 0 l)) (chain 256 T 0 (T.sibling 0));
}
