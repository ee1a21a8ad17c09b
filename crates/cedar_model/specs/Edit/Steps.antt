-- What the steps of an update and of an erasure change.
use Rattle.std.specs.Prelude.{◌≡◌, ℕ, zero, suc, ◌+◌, ◌*◌, ◌<◌, ◌≤◌, ◌==◌, cond, if◌then◌else◌}
use Rattle.std.specs.Prelude.{ℤ, Bool, true, List, [], ◌∷◌, ◌++◌, length, None, Option, pos}
use Rattle.cedar_tree.specs.Tree.{Forest, IsAscending, Tree, cut, has_label, is_bare}
use Rattle.cedar_tree.specs.Queries.{node_at}
use Rattle.cedar_tree.specs.Edits.{edit_at, with_leaf}
use Rattle.cedar_model.specs.declared.layout.Stored.TheVariants.{AtBase}
use Rattle.cedar_model.specs.Table.Cells.{Cells, Held}
use Rattle.cedar_model.specs.Edit.NodeEdits.{IsAt, IsNodeOf}
use Rattle.cedar_model.specs.Meaning.Family.{below, InRange}
use Rattle.cedar_model.specs.Meaning.Marks.{KeepsMarks}
use Rattle.cedar_model.specs.Meaning.StandsFor.{HoldsTree}
use Rattle.cedar_model.specs.Table.TableFields.{Fields, SameSettings, size_of}
use Rattle.cedar_model.specs.Meaning.WellFormed.{cells_in, TableHolds}

-- how many blocks a table has once n more are in use: their number doubles where all of them are
unfoldable pub blocks_after : ℕ → ℕ → ℕ → ℕ
blocks_after zero active blocks = blocks
blocks_after (suc n) active blocks = blocks_after n (active + 1) (cond (active == blocks) (2 * blocks) blocks)

-- the table has as many blocks as once n more are in use (`blocks_after`)
abbrev pub MakesRoom : ℕ → Fields → Fields → Type 0
MakesRoom n before after =
    length after.places.blocks.records ≡ blocks_after n before.places.blocks.active (length before.places.blocks.records)

-- n more blocks are in use, and the table has doubled exactly if it had to
pub record MakesBlocks (n : ℕ) (before after : Fields) : Type 0 where
  pub active : after.places.blocks.active ≡ before.places.blocks.active + n
  pub capacity : length after.places.blocks.records ≡ blocks_after n before.places.blocks.active (length before.places.blocks.records)

-- at most one more block is in use, and the root's check and the settings are as before
pub record MayAddBlock (before after : Fields) : Type 0 where
  pub blocks : (n : ℕ) × (n ≤ 1) × MakesBlocks n before after
  pub root_check : (cells_in after).check 0 ≡ (cells_in before).check 0
  pub settings : SameSettings before after

-- the tree of the slots T becomes a table's by a change of one node's number and children: those of the node at slot
-- a
abbrev pub EditsNode : ℕ → Cells → Fields → ℕ → (Option ℤ → Option ℤ) → (Forest → Forest) → Type 0
EditsNode size T after a number children =
    (f : Forest) (w : List ℕ) → HoldsTree size T f → IsAt T w a → TableHolds after (edit_at w number children f)

-- slot a of a table is a node of the tree with the children f, whose labels ascend if the table is ordered
-- (`IsNodeOf`)
abbrev pub HasNode : Fields → Forest → ℕ → Type 0
HasNode T f a = IsNodeOf (size_of T) (cells_in T) T.ordered f a

-- the tree with the children f and no number
abbrev pub root_of : Forest → Tree
root_of f = record { number = None; children = f }

-- the node that was at slot a is at slot s, on every path that led to it. Slot s has a base, unless it is the root's,
-- and a free slot for label l
pub record Placed (before after : Fields) (a l s : ℕ) : Type 0 where
  pub inside : s < size_of after
  pub at : (w : List ℕ) → IsAt (cells_in before) w a → IsAt (cells_in after) w s
  pub root : s ≡ 0 → a ≡ 0
  pub based : (s ≡ 0 → ⊥) → InRange (size_of after) ((cells_in after).stored s)
  pub free : Held (cells_in after) (below (cells_in after) s l) → ⊥
  pub marks : KeepsMarks (cells_in before) (cells_in after)

-- the tree whose node at the path has a child under label l: as it is, or with a new bare leaf
abbrev pub with_child : Tree → Bool → List ℕ → ℕ → Tree
with_child t ordered w l = if has_label (node_at t w).children l then t else with_leaf t ordered w l

-- slot s is that of the child under label l of the node that was at slot a. If there was no child, it is a new bare
-- leaf (`with_child`)
pub record StepsTo (before after : Fields) (a l s : ℕ) : Type 0 where
  pub inside : s < size_of after
  pub not_root : s ≡ 0 → ⊥
  pub at : (w : List ℕ) → IsAt (cells_in before) w a → IsAt (cells_in after) (w ++ l ∷ []) s
  pub tree : (f : Forest) (w : List ℕ) → TableHolds before f → (before.ordered ≡ true → IsAscending f) → IsAt (cells_in before) w a
      → TableHolds after (with_child (root_of f) before.ordered w l).children
  pub leaf : ((cells_in before).check (below (cells_in before) a l) ≡ pos a → ⊥) → (cells_in after).stored s ≡ AtBase 0
  pub marks : KeepsMarks (cells_in before) (cells_in after)
  -- a step at the root takes no slot outside block 0
  pub outside : a ≡ 0 → (x : ℕ) → 256 ≤ x → Held (cells_in after) x → Held (cells_in before) x

-- the tree after a trim: the node at the end of the path is taken away if it is bare, and each node above it that was
-- bare then
abbrev pub tree_after_trim : Tree → List ℕ → Tree
tree_after_trim t w = if is_bare (node_at t w) then cut t w else t

-- order and `max_trial` are as before
pub record SameModes (before after : Fields) : Type 0 where
  pub ordered : after.ordered ≡ before.ordered
  pub max_trial : after.places.blocks.max_trial ≡ before.places.blocks.max_trial
