-- The laws of what a table represents, each as a statement. Functions of this crate have them as their contracts.
use Rattle.std.specs.Prelude.{◌≡◌, ℕ, ◌+◌, List, length}
use Rattle.cedar_tree.specs.Queries.{slots_of_tree}
use Rattle.cedar_model.specs.Edit.Packing.{count_held}
use Rattle.cedar_model.specs.Meaning.Marks.{KeepsMarks}
use Rattle.cedar_model.specs.Meaning.StandsFor.{labels, Leads, slot_at}
use Rattle.cedar_model.specs.Meaning.WellFormed.{cells_in, HasNoPlace, IsWellFormed, tree_of}
use Rattle.cedar_model.specs.Table.Layouts.{default_layout}
use Rattle.cedar_model.specs.Table.TableFields.{Fields, size_of}

-- no two paths from the root of a well-formed table lead to one slot
abbrev pub SlotsHaveOnePath : Type 0
SlotsHaveOnePath =
    (limit : ℕ) (table : Fields) (p : List ℕ) (q : List ℕ) → IsWellFormed limit table → Leads (cells_in table) p → Leads (cells_in table) q
    → slot_at (cells_in table) p ≡ slot_at (cells_in table) q → p ≡ q

-- two well-formed tables with one tree, whose numbers are kept alike, hold equally many slots
abbrev pub OneTreeHoldsAsMany : Type 0
OneTreeHoldsAsMany =
    (limit : ℕ) (before : Fields) (after : Fields) → IsWellFormed limit before → IsWellFormed limit after → tree_of after ≡ tree_of before
    → KeepsMarks (cells_in before) (cells_in after) → count_held after ≡ count_held before

-- in the default layout, if no slot outside block 0 is free, the slots in use and the root's children are together as many as the tree's
-- slots and 255
abbrev pub FullBlocksCount : Type 0
FullBlocksCount =
    (limit : ℕ) (table : Fields) → IsWellFormed limit table → table.layout ≡ default_layout → HasNoPlace table
    → size_of table + length (labels (tree_of table).children) ≡ slots_of_tree (tree_of table) + 255
