-- A table on the way of an update along a key, and one from which the way was taken back.
use Rattle.std.specs.Prelude.{◌≡◌, ◌⊎◌, ℕ, ◌+◌, ◌<◌, ◌≤◌, true, false, ℤ, List, []}
use Rattle.std.specs.Prelude.{◌∷◌, ◌++◌, length, is_some}
use Rattle.cedar_tree.specs.Tree.{Forest, IsAscending, IsPath, has_label, number_at, put}
use Rattle.cedar_slots.specs.declared.shortage.Shortage.{Shortage}
use Rattle.cedar_model.specs.declared.layout.Stored.TheVariants.{AtBase}
use Rattle.cedar_model.specs.Table.Cells.{Held, NoPlace}
use Rattle.cedar_model.specs.Edit.NodeEdits.{IsAt}
use Rattle.cedar_model.specs.Table.Layouts.{default_layout, reduced_layout}
use Rattle.cedar_model.specs.Meaning.Marks.{KeepsMarks}
use Rattle.cedar_model.specs.Edit.Own.{LacksNode}
use Rattle.cedar_slots.specs.Places.{IsTable, MayRefuse}
use Rattle.cedar_model.specs.Edit.Steps.{MakesBlocks, root_of, SameModes, tree_after_trim}
use Rattle.cedar_model.specs.Table.TableFields.{Fields, SameSettings, size_of}
use Rattle.cedar_model.specs.Meaning.WellFormed.{cells_in, IsWellFormed, TableHolds, tree_of}

-- a walk along a key is at slot a, at the front w of the key, and `rest` is left. It has added only bare leaves along
-- w: so a trim gives the tree of before (`tree_after_trim`), and a put at the key gives the same as before
pub record Walked (slots : ℕ) (before after : Fields) (key w rest : List ℕ) (a : ℕ) : Type 0 where
  pub table : IsTable slots after.places
  pub root_check : (cells_in after).check 0 ≡ (cells_in before).check 0
  pub settings : SameSettings before after
  pub whole : w ++ rest ≡ key
  pub bytes : IsPath rest
  pub inside : a < size_of after
  pub forest : Forest
  pub holds : TableHolds after forest
  pub ascending : before.ordered ≡ true → IsAscending forest
  pub at : IsAt (cells_in after) w a
  -- a put at the key, its number, and what is left once the bare leaves are taken away, are as before
  pub puts : (v : ℤ) → put (root_of forest) before.ordered key v ≡ put (tree_of before) before.ordered key v
  pub number : number_at (root_of forest) key ≡ number_at (tree_of before) key
  pub back : tree_after_trim (root_of forest) w ≡ tree_of before
  -- a step makes one block at most, and the first one none; nor do steps to a key that has a number
  pub blocks : (n : ℕ) × (n ≤ length w) × (0 < length w → n < length w) × MakesBlocks n before after
  pub over : is_some (number_at (tree_of before) key) ≡ true → MakesBlocks 0 before after
  -- the first step takes no slot outside block 0, and a leaf that it adds has no base yet
  pub outside : length w ≤ 1 → (x : ℕ) → 256 ≤ x → Held (cells_in after) x → Held (cells_in before) x
  pub leaf : (b : ℕ) → w ≡ b ∷ [] → has_label (tree_of before).children b ≡ false → (cells_in after).stored a ≡ AtBase 0
  pub marks : KeepsMarks (cells_in before) (cells_in after)
  -- all is as before, or the last step has added a leaf, which has no base yet
  pub fresh : IsAt (cells_in before) w a × (cells_in after ≡ cells_in before) ⊎ ((a ≡ 0 → ⊥) × ((cells_in after).stored a ≡ AtBase 0))

-- what a refusal leaves: the tree of before, in a well-formed table
pub record TakenBack (slots : ℕ) (before after : Fields) (key : List ℕ) (error : Shortage) : Type 0 where
  pub well_formed : IsWellFormed slots after
  pub tree : tree_of after ≡ tree_of before
  pub refused : MayRefuse after.places slots error
  -- by one less than that where a leaf of the key would have kept its number in its own base field
  pub blocks : (n : ℕ) × (n < length key) × (before.layout ≡ reduced_layout → LacksNode (cells_in before) key → n + 1 < length key) × MakesBlocks n before after
  pub marks : KeepsMarks (cells_in before) (cells_in after)
  pub over : is_some (number_at (tree_of before) key) ≡ true → ⊥
  pub one_byte : (b : ℕ) → key ≡ b ∷ [] → has_label (tree_of before).children b ≡ false → (before.layout ≡ default_layout) × NoPlace (size_of before) (cells_in before)
  pub modes : SameModes before after
