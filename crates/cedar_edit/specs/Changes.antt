-- What the calls of `cedar_edit` change: the tree, which numbers have slots, and the blocks.
use Rattle.std.specs.Prelude.{◌≡◌, ◌≢◌, ◌⊎◌, ◌↔◌, ◌+◌, ◌*◌, ◌<◌, ◌≤◌, ℕ, ℤ, bit_xor, Bool, false}
use Rattle.std.specs.Prelude.{IfErr, IfOk, is_some, IsTrue, length, List, [], ◌∷◌, MatchOption}
use Rattle.std.specs.Prelude.{OnErr, OnOk, Option, pos, Result, Some, take, true}
use Rattle.cedar_model.specs.Tree.{Forest, has_label, IsAscending, number_at, put}
use Rattle.cedar_model.specs.Edits.{add_leaf, edit_at}
use Rattle.cedar_slots.specs.Places.{MayRefuse}
use Rattle.cedar_slots.specs.declared.shortage.Shortage.{Shortage}
use Rattle.cedar_model.specs.Table.Cells.{Cells, NoPlace}
use Rattle.cedar_model.specs.Table.Layouts.{default_layout, reduced_layout}
use Rattle.cedar_model.specs.Table.TableFields.{Fields, size_of}
use Rattle.cedar_model.specs.declared.layout.Stored.TheVariants.{AtBase}
use Rattle.cedar_model.specs.Meaning.Family.{base_of, below, Family, Head, Links, owned_slots}
use Rattle.cedar_model.specs.Meaning.Marks.{mark, marks, MarksPut, MovesOut, PutsMark}
use Rattle.cedar_model.specs.Meaning.Reading.{first_in}
use Rattle.cedar_model.specs.Meaning.StandsFor.{HoldsTree}
use Rattle.cedar_model.specs.Meaning.WellFormed.{cells_in, IsWellFormed, TableHolds, tree_of}
use Rattle.cedar_model.specs.Edit.NodeEdits.{GoesBehind, GoesFirst, IsAt}
use Rattle.cedar_model.specs.Edit.Own.{LacksNode}
use Rattle.cedar_model.specs.Edit.Packing.{joins, PacksKey, StaysSmall}
use Rattle.cedar_model.specs.Edit.Steps.{MakesBlocks, root_of, SameModes, tree_after_trim}
use Rattle.cedar_model.specs.Edit.Trims.{LosesLeaf}
use Rattle.cedar_model.specs.Relocation.Renaming.{Renames}
use Rattle.cedar_model.specs.Relocation.Reserved.{cells_without, SetReserved}
use Rattle.cedar_model.specs.Relocation.Wanted.{rest_of}

-- ---- the tree

-- the tree of the slots T, whose labels ascend if they are ordered, becomes a table's by a new leaf at label l of
-- slot a
abbrev pub AddsLeaf : ℕ → Bool → Cells → Fields → ℕ → ℕ → Type 0
AddsLeaf size ordered T after a l =
    (f : Forest) (w : List ℕ) → HoldsTree size T f → (ordered ≡ true → IsAscending f) → IsAt T w a
    → TableHolds after (edit_at w (λ n. n) (add_leaf ordered l) f)

-- the node at slot a, which was bare, is taken away, and s is the slot of the node above it (`LosesLeaf`)
abbrev pub RemovesNode : Fields → Fields → ℕ → ℕ → Type 0
RemovesNode before after a s =
    (f : Forest) (w : List ℕ) → TableHolds before f → IsAt (cells_in before) w a → LosesLeaf (size_of after) (cells_in after) f w s

-- the node at slot a is taken away if it is bare, and then each node above it that is left so (`tree_after_trim`)
abbrev pub TrimsNode : Fields → Fields → ℕ → Type 0
TrimsNode before after a =
    (f : Forest) (w : List ℕ) → TableHolds before f → IsAt (cells_in before) w a
    → TableHolds after (tree_after_trim (root_of f) w).children

-- the slots as if the one that the node at slot a has for label l were free, whatever it holds
abbrev pub cells_besides : Fields → ℕ → ℕ → Cells
cells_besides T a l = cells_without (cells_in T) (below (cells_in T) a l)

-- where label l comes into the chain of slot a: right behind this slot, or first of all
abbrev pub ComesBehind : Fields → ℕ → ℕ → Option ℕ → Type 0
ComesBehind T a l before =
    MatchOption before (GoesFirst (cells_in T) T.ordered a l) (λ slot. GoesBehind (size_of T) (cells_in T) T.ordered a l slot)

-- ---- blocks

-- a call isn't refused, and makes no block
abbrev pub TakesNoBlock : {X : Type 0} → Fields → Fields → Result X Shortage → Type 0
TakesNoBlock before after result = OnErr result ⊥ × MakesBlocks 0 before after

-- a call makes at most n blocks, and fewer than n if it is refused
abbrev pub MakesAtMost : {X : Type 0} → ℕ → Fields → Fields → Result X Shortage → Type 0
MakesAtMost most before after result = (n : ℕ) × (n ≤ most) × OnErr result (n < most) × MakesBlocks n before after

-- a call isn't refused and makes no block, unless no slot outside block 0 is free
abbrev pub TakesFreeSlot : {X : Type 0} → Fields → Fields → Result X Shortage → Type 0
TakesFreeSlot before after result = TakesNoBlock before after result ⊎ NoPlace (size_of before) (cells_in before)

-- in the reduced layout a key whose node isn't there makes fewer blocks than it has bytes, and fewer by one more if
-- it is refused
abbrev pub TakesNewNode : {X : Type 0} → Fields → Fields → List ℕ → Result X Shortage → Type 0
TakesNewNode before after key result =
    before.layout ≡ reduced_layout → LacksNode (cells_in before) key
    → (n : ℕ) × (n < length key) × OnErr result (n + 1 < length key) × MakesBlocks n before after

-- a number needs a slot of its own, and none is free outside block 0
abbrev pub LacksNumberSlot : Fields → Type 0
LacksNumberSlot T = (T.layout ≡ default_layout) × NoPlace (size_of T) (cells_in T)

-- a new key of one byte makes no block and isn't refused, unless its number lacks a slot (`LacksNumberSlot`)
abbrev pub TakesNewByte : {X : Type 0} → Fields → Fields → List ℕ → Result X Shortage → Type 0
TakesNewByte before after key result =
    (b : ℕ) → key ≡ b ∷ [] → has_label (tree_of before).children b ≡ false → TakesNoBlock before after result ⊎ LacksNumberSlot before

-- the node of a key, at slot a, was there, and the table is as it was. Or the node is a new leaf, which has no base
-- yet, and few blocks were made on the way, or few slots outside block 0 are free (`StaysSmall`)
abbrev pub WalksIn : Fields → Fields → List ℕ → ℕ → Type 0
WalksIn before after key a =
    (after ≡ before)
    ⊎ (((cells_in after).stored a ≡ AtBase 0) × (a ≢ 0) × StaysSmall (size_of before + 256 * joins (tree_of before) key) after)

-- ---- a key

-- all that a call promises that puts a key with a number, or is refused
pub record PutsKey (slots : ℕ) (before after : Fields) (key : List ℕ) (value : ℤ) (result : Result (Option ℤ) Shortage) : Type 0 where
  pub well_formed : IsWellFormed slots after
  pub put : OnOk result (tree_of after ≡ put (tree_of before) before.ordered key value)
  -- the result is the number that the key held
  pub held : IfOk result (λ number. number ≡ number_at (tree_of before) key)
  pub taken_back : OnErr result (tree_of after ≡ tree_of before)
  -- a refusal says what there is too little of
  pub refused : IfErr result (λ error. MayRefuse after.places slots error)
  pub blocks : MakesAtMost (length key) before after result
  -- over a number no block is made, and nothing is refused
  pub over : is_some (number_at (tree_of before) key) ≡ true → TakesNoBlock before after result
  pub one_byte : TakesNewByte before after key result
  -- one slot alone is taken wherever one is free
  pub packs : OnOk result (PacksKey before after key)
  pub modes : SameModes before after

-- ---- where numbers are kept

-- in the reduced layout the key is put into the tree of marks
abbrev pub PutsInMarks : Fields → Fields → List ℕ → Type 0
PutsInMarks before after key = before.layout ≡ reduced_layout → MarksPut (tree_of before) (marks before) (marks after) key

-- the number of slot a has a slot of its own, unless the layout keeps that of a node without base in the node's own
-- base field
abbrev pub PutsInSlot : Fields → Fields → ℕ → Type 0
PutsInSlot before after a =
    (before.layout ≡ reduced_layout → base_of (cells_in before) a ≢ 0) → PutsMark (cells_in before) (cells_in after) a true

-- the number of slot a, which has no base, is kept in the node's own base field, if the layout does so
abbrev pub PutsInBase : Fields → Fields → ℕ → Type 0
PutsInBase before after a =
    before.layout ≡ reduced_layout → base_of (cells_in before) a ≡ 0 → PutsMark (cells_in before) (cells_in after) a false

-- the number at the path w has moved from its slot into its node's own base field, if the node owns no other slot
abbrev pub MovesIn : Cells → Cells → List ℕ → Type 0
MovesIn T T' w = (s : ℕ) → IsAt T w s → mark T s ≡ Some true → first_in T s ≡ 0 → IsAt T' w s × (mark T' s ≡ Some false)

-- the number of the key's first n bytes has moved from its node's own base field into a slot
abbrev pub MovesPrefixOut : Fields → Fields → List ℕ → ℕ → Type 0
MovesPrefixOut before after key n = MovesOut (cells_in before) (cells_in after) (root_of (tree_of before).children) (take n key)

-- a number is in the way behind n bytes of the key: it is in the base field of a node that labels of the key come
-- below. The key's own node isn't there yet
abbrev pub IsInWay : Fields → List ℕ → ℕ → Type 0
IsInWay T key n = (n < length key) × (T.layout ≡ reduced_layout) × LacksNode (cells_in T) key

-- slot a owns the slot of its number v, and no other
abbrev pub OwnsNumberAlone : Cells → ℕ → ℤ → Type 0
OwnsNumberAlone T a v = (T.check (below T a 0) ≡ pos a) × (T.base (below T a 0) ≡ v) × (first_in T a ≡ 0)

-- slot a owns no slot of a number, or another slot too
abbrev pub LacksLoneNumber : Cells → ℕ → Type 0
LacksLoneNumber T a = T.check (below T a 0) ≡ pos a → first_in T a ≡ 0 → ⊥

-- ---- sets of slots that move

-- slots have moved, and slot k is held in the root's name and no part of the tree
abbrev pub RenamesAround : Cells → Cells → ℕ → (ℕ → ℕ) → Type 0
RenamesAround T T' k names = Renames T (cells_without T' k) names × (T'.check k ≡ pos 0)

-- the slots of slot a have moved to a base whose slot for label l is outside block 0 and kept back
abbrev pub MovesForLabel : Fields → Fields → ℕ → ℕ → Type 0
MovesForLabel before after a l =
    (base : ℕ) × (ls : List ℕ) × (ws : List ℕ) × (256 ≤ bit_xor base l) × (bit_xor base l < size_of after)
    × SetReserved before after a base (bit_xor base l) ls ws

-- the slots that slot a owns, but for the first one, are chained from label l on
abbrev pub ChainsRest : ℕ → Cells → ℕ → ℕ → Type 0
ChainsRest size T a l = (h : Head) (ls : List ℕ) → Family size T a h ls → Links T a l (rest_of (owned_slots h ls))

-- a result says whether slot a owns more slots than slot b, which owns some
abbrev pub TellsLonger : ℕ → Cells → ℕ → ℕ → Bool → Type 0
TellsLonger size T a b longer =
    (h k : Head) (ls ms : List ℕ) → Family size T a h ls → Family size T b k ms
    → IsTrue longer ↔ (length (rest_of (owned_slots k ms)) < length (rest_of (owned_slots h ls)))
