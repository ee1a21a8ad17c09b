-- Numbers in the base fields of their own nodes.
use Rattle.std.specs.Prelude.{◌≡◌, ℕ, ℤ, List, [], ◌∷◌, pos}
use Rattle.cedar_model.specs.declared.layout.Stored.{Stored}
use Rattle.cedar_model.specs.declared.layout.Stored.TheVariants.{OwnNumber}
use Rattle.cedar_model.specs.Table.Cells.{Cells}
use Rattle.cedar_model.specs.Edit.NodeEdits.{IsAt}
use Rattle.cedar_model.specs.Meaning.Family.{below}

-- the base field of slot a says `st` now, and nothing else has changed
pub record FieldSet (T T' : Cells) (a : ℕ) (st : Stored) : Type 0 where
  pub check : (q : ℕ) → T'.check q ≡ T.check q
  pub sibling : (q : ℕ) → T'.sibling q ≡ T.sibling q
  pub child : (q : ℕ) → T'.child q ≡ T.child q
  pub base : (q : ℕ) → (q ≡ a → ⊥) → T'.base q ≡ T.base q
  pub stored : (q : ℕ) → (q ≡ a → ⊥) → T'.stored q ≡ T.stored q
  pub set : T'.stored a ≡ st

-- the node at slot s doesn't keep its number in its own base field
abbrev pub NoOwn : Cells → ℕ → Type 0
NoOwn T s = (v : ℤ) → T.stored s ≡ OwnNumber v → ⊥

-- no node of the key from slot s on that labels come below keeps its number in its own base field. The node of a
-- whole key may
abbrev pub HasWay : Cells → ℕ → List ℕ → Type 0
HasWay T s [] = Unit {0}
HasWay T s (l ∷ rest) = NoOwn T s × (T.check (below T s l) ≡ pos s → HasWay T (below T s l) rest)

-- the node at a path keeps its number in its own base field
abbrev pub IsOwnAt : Cells → List ℕ → Type 0
IsOwnAt T w = (s : ℕ) × IsAt T w s × (v : ℤ) × (T.stored s ≡ OwnNumber v)

-- the path of these labels leads to no node
abbrev pub LacksNode : Cells → List ℕ → Type 0
LacksNode T w = (s : ℕ) → IsAt T w s → ⊥
