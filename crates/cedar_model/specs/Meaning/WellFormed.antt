-- What holds of a table as a whole: its slots, blocks and lists, and the tree that it represents.
use Rattle.std.specs.Prelude.{◌≡◌, ℕ, Bool, true, ◌&&◌, int_le, ℤ, pos, negsuc, List}
use Rattle.std.specs.Prelude.{[], ◌∷◌, ◌++◌, length, cond}
use Rattle.cedar_tree.specs.Tree.{Forest, none, child, Tree, IsSoundBelow, IsAscending, AllNumbers}
use Rattle.cedar_tree.specs.Queries.{walk}
use Rattle.cedar_model.specs.Table.Cells.{Cells, cells_of, NoPlace}
use Rattle.cedar_model.specs.Meaning.Family.{below}
use Rattle.cedar_model.specs.Meaning.StandsFor.{HoldsTree}
use Rattle.cedar_slots.specs.Places.{IsTable}
use Rattle.cedar_model.specs.Meaning.Reading.{tree_read, has_number_slot}
use Rattle.cedar_slots.specs.Slots.{check_at}
use Rattle.cedar_model.specs.Table.TableFields.{Fields, size_of}

-- the slots of a table, as its layout reads them
abbrev pub cells_in : Fields → Cells
cells_in T = cells_of T.layout T.places

-- the tree that a table represents
abbrev pub tree_of : Fields → Tree
tree_of T = tree_read (size_of T) (cells_in T)

-- the slots of a table hold the tree with the children f
abbrev pub TableHolds : Fields → Forest → Type 0
TableHolds T f = HoldsTree (size_of T) (cells_in T) f

-- no slot of a table that is in use outside block 0 is free
abbrev pub HasNoPlace : Fields → Type 0
HasNoPlace T = NoPlace (size_of T) (cells_in T)

-- whether a number may be the value of a key: from 0 to 2147483645
abbrev pub is_value : ℤ → Bool
is_value v = int_le (pos 0) v && int_le v (pos 2147483645)

-- all that holds of a table between two calls, which may have `slots` slots
pub record IsWellFormed (slots : ℕ) (T : Fields) : Type 0 where
  -- sizes, rings, lists, ranges, and a blank rest (`IsTable`)
  pub table : IsTable slots T.places
  -- the check of slot 0 is -1
  pub root_check : check_at T.places.slots.nodes 0 ≡ negsuc 0
  -- base, number's slot, chain and children of each node are as `Stands` says, from the root on. Each slot with an
  -- owner is that of a node or of a number, on a path from the root. With the root and the free slots these are all
  -- slots in use, and each is only one of them
  pub stands : HoldsTree (size_of T) (cells_in T) (tree_of T).children
  -- each node but the root has a number or a label, and no label comes twice in a chain
  pub sound : IsSoundBelow (tree_of T).children
  -- numbers are from 0 to 2147483645
  pub values : AllNumbers (λ v. is_value v ≡ true) (tree_of T).children
  -- if the table is ordered, the labels of each chain ascend; if not, any order will do
  pub ascending : T.ordered ≡ true → IsAscending (tree_of T).children
  -- `entries` is the number of keys
  pub entries : T.entries ≡ length (walk (tree_of T))

-- the slot of a node's number, if it has one
abbrev pub number_slots : Cells → ℕ → List ℕ
number_slots T s = cond (has_number_slot T s) (below T s 0 ∷ []) []

-- the slots that represent some children of slot s and all that is below them, in the order of the walk
abbrev pub slots_below : Cells → ℕ → Forest → List ℕ
slots_below T s none = []
slots_below T s (child l n f rest) =
    below T s l ∷ number_slots T (below T s l) ++ slots_below T (below T s l) f ++ slots_below T s rest

-- the slots that the tree t names, in the order of the walk: the root's, each node's, and after it that of its number
-- if it has one
abbrev pub slots_named : Cells → Tree → List ℕ
slots_named T t = 0 ∷ slots_below T 0 t.children

-- the slots that the tree of a table names
abbrev pub tree_slots : Fields → List ℕ
tree_slots T = slots_named (cells_in T) (tree_of T)
