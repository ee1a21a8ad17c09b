-- A slot that is kept back for a new label while a set is moved.
use Rattle.std.specs.Prelude.{◌≡◌, ℕ, ◌<◌, Bool, cond, List, nat_eq, negsuc, pos}
use Rattle.cedar_tree.specs.Tree.{Forest}
use Rattle.cedar_model.specs.Table.Cells.{Cells}
use Rattle.cedar_model.specs.Edit.NodeEdits.{IsAt}
use Rattle.cedar_model.specs.Meaning.Family.{below, InRange}
use Rattle.cedar_model.specs.Meaning.Marks.{KeepsMarks}
use Rattle.cedar_model.specs.Meaning.StandsFor.{HoldsTree}
use Rattle.cedar_model.specs.Relocation.Renaming.{SetMoved}
use Rattle.cedar_model.specs.Table.TableFields.{Fields, size_of}
use Rattle.cedar_model.specs.Meaning.WellFormed.{cells_in, TableHolds}

-- the slots as if slot k were free, whatever it holds. While a set moves, the slot that a new label gets is reserved:
-- held in the root's name, and no part of the tree, which is that of `cells_without T k`
abbrev pub cells_without : Cells → ℕ → Cells
cells_without T k = record {
  base = T.base;
  stored = T.stored;
  check = λ s. cond (nat_eq s k) (negsuc 0) (T.check s);
  sibling = λ s. cond (nat_eq s k) 0 (T.sibling s);
  child = λ s. cond (nat_eq s k) 0 (T.child s);
}

-- the slots as the tree sees them: without slot k if it is reserved
abbrev pub without_reserved : Bool → Cells → ℕ → Cells
without_reserved reserved T k = cond reserved (cells_without T k) T

-- a set has moved: the slots of p are at base b, and slot k is held in the root's name and no part of the tree
pub record SetReserved (before after : Fields) (p b k : ℕ) (ls ws : List ℕ) : Type 0 where
  pub set : SetMoved (size_of before) (size_of after) (cells_in before) (cells_without (cells_in after) k) p b ls ws
  pub reserved : (cells_in after).check k ≡ pos 0
  pub tree : (f : Forest) → TableHolds before f → HoldsTree (size_of after) (cells_without (cells_in after) k) f

-- the node that was at slot a is at slot s, and its slot for label l is held in the root's name and no part of the
-- tree yet
pub record Reserves (before after : Fields) (a l s : ℕ) : Type 0 where
  pub inside : s < size_of after
  pub at : (w : List ℕ) → IsAt (cells_in before) w a → IsAt (cells_without (cells_in after) (below (cells_in after) s l)) w s
  pub not_root : s ≡ 0 → ⊥
  pub based : InRange (size_of after) ((cells_in after).stored s)
  pub reserved : (cells_in after).check (below (cells_in after) s l) ≡ pos 0
  pub tree : (f : Forest) → TableHolds before f → HoldsTree (size_of after) (cells_without (cells_in after) (below (cells_in after) s l)) f
  pub marks : KeepsMarks (cells_in before) (cells_without (cells_in after) (below (cells_in after) s l))
