-- How few slots outside block 0 stay free: a slot that is taken alone is taken wherever one is free, so that a block is made for it only
-- where none is.
use Rattle.std.specs.Prelude.{◌≡◌, ◌⊎◌, ℕ, ◌+◌, ◌*◌, ◌≤◌, cond, List, [], ◌∷◌, length}
use Rattle.std.specs.List.{count_by, range_with_len}
use Rattle.cedar_tree.specs.Tree.{Forest, has_label, Tree}
use Rattle.cedar_model.specs.Edit.Steps.{MakesBlocks}
use Rattle.cedar_model.specs.Meaning.StandsFor.{labels}
use Rattle.cedar_model.specs.Meaning.WellFormed.{cells_in, TableHolds, tree_of}
use Rattle.cedar_model.specs.Table.Cells.{Cells, Held, is_held, NoPlace}
use Rattle.cedar_model.specs.Table.TableFields.{Fields, size_of}

-- how many slots are held
abbrev pub count_held : Fields → ℕ
count_held T = count_by (is_held (cells_in T)) (range_with_len 0 (size_of T))

-- where the root has so many children, which are in block 0 with it, at most 255 slots outside block 0 are free, and
-- `spare` others
abbrev pub Packs : ℕ → ℕ → Fields → Type 0
Packs first spare T = size_of T + first ≤ count_held T + 510 + spare

-- ---- one slot

-- a slot is held that wasn't
abbrev pub TakesAnother : Cells → Cells → Type 0
TakesAnother T T' = (x : ℕ) × (Held T x → ⊥) × Held T' x

-- no block was made, unless no slot outside block 0 was free
abbrev pub MakesIfFull : Fields → Fields → Type 0
MakesIfFull before after = MakesBlocks 0 before after ⊎ NoPlace (size_of before) (cells_in before)

-- the step makes no block, or one since no slot outside block 0 was free; and it takes a slot
abbrev pub TakesOne : Fields → Fields → Type 0
TakesOne before after = MakesBlocks 0 before after ⊎ (NoPlace (size_of before) (cells_in before) × TakesAnother (cells_in before) (cells_in after))

-- what was held is held, and one slot more at most, for which no block was made unless no slot outside block 0 was
-- free
pub record TakesSingle (before after : Fields) : Type 0 where
  pub keeps : (x : ℕ) → Held (cells_in before) x → Held (cells_in after) x
  pub one : TakesOne before after

-- ---- a key

-- at most 255 slots outside block 0 are free
abbrev pub HasFewFree : Fields → Type 0
HasFewFree T = (f : Forest) → TableHolds T f → Packs (length (labels f)) 0 T

-- no more than so many slots are in use, or at most 255 of those outside block 0 are free
abbrev pub StaysSmall : ℕ → Fields → Type 0
StaysSmall most T = (size_of T ≤ most) ⊎ HasFewFree T

-- 1 for a key whose first byte another one has, and 0 for one with a new first byte
abbrev pub joins : Tree → List ℕ → ℕ
joins t [] = 0
joins t (b ∷ rest) = cond (has_label t.children b) 1 0

-- a put of a key makes no block, and at most one if another key has its first byte (`joins`). It makes more only if
-- at most 255 slots outside block 0 are free then, or none was before. In this last case it makes at most two, and
-- another key has its first byte
abbrev pub PacksKey : Fields → Fields → List ℕ → Type 0
PacksKey before after key =
    StaysSmall (size_of before + 256 * joins (tree_of before) key) after
    ⊎ (NoPlace (size_of before) (cells_in before) × (joins (tree_of before) key ≡ 1) × (size_of after ≤ size_of before + 512))
