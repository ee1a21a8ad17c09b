-- Which numbers of a table made of sorted pairs have slots of their own.
use Rattle.std.specs.Prelude.{◌≡◌, ◌↔◌, ℕ, ℤ, List, length, Option, Some, true, is_some}
use Rattle.cedar_model.specs.Tree.{Forest, none, number_at, Tree}
use Rattle.cedar_model.specs.Queries.{node_at}
use Rattle.cedar_model.specs.declared.layout.Stored.TheVariants.{OwnNumber}
use Rattle.cedar_model.specs.Table.Cells.{Cells}
use Rattle.cedar_model.specs.Table.Layouts.{LayoutKind, default_layout, reduced_layout}
use Rattle.cedar_model.specs.Edit.NodeEdits.{IsAt}
use Rattle.cedar_model.specs.Edit.Steps.{root_of}
use Rattle.cedar_model.specs.Meaning.Marks.{HasMark, IsProperFront}

-- w is a key of the tree t, and a longer one begins with it
abbrev pub IsInnerKey : Tree → List ℕ → Type 0
IsInnerKey t w = (is_some (number_at t w) ≡ true) × (key : List ℕ) × IsProperFront w key × (is_some (number_at t key) ≡ true)

-- of the tree t of sorted pairs, m is the tree of marks: all of t by default, and in the reduced layout with marks at
-- exactly the keys that begin longer ones (`IsInnerKey`)
pub record SortedMarks (layout : LayoutKind) (t m : Tree) : Type 0 where
  pub inner : layout ≡ reduced_layout → (w : List ℕ) → HasMark m w ↔ IsInnerKey t w
  pub by_default : layout ≡ default_layout → m ≡ t

-- ---- on the way

-- in the reduced layout the number of a node without labels is kept in its own base field, at slot a
abbrev pub KeepsOwn : LayoutKind → Cells → ℕ → Option ℤ → List ℕ → Type 0
KeepsOwn layout T a number ls = layout ≡ reduced_layout → (v : ℤ) → number ≡ Some v → length ls ≡ 0 → T.stored a ≡ OwnNumber v

-- each number in the tree with the children f that has no child below it is kept in its node's own base field
abbrev pub KeepsLast : Cells → Forest → Type 0
KeepsLast T f =
    (w : List ℕ) → is_some (number_at (root_of f) w) ≡ true → (node_at (root_of f) w).children ≡ none
    → (s : ℕ) × (v : ℤ) × IsAt T w s × (T.stored s ≡ OwnNumber v)
