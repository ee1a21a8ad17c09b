-- What one node's own slots look like.
use Rattle.std.specs.Prelude.{◌≡◌, ℕ, ◌<◌, ◌≤◌, List, [], ◌∷◌, ℤ, pos, ◌⊎◌}
use Rattle.std.specs.Prelude.{bit_xor, Option, Some, None}
use Rattle.cedar_model.specs.declared.layout.Stored.{Stored}
use Rattle.cedar_model.specs.declared.layout.Stored.TheVariants.{AtBase, OwnNumber, Nothing}
use Rattle.cedar_model.specs.Table.Cells.{Cells}

-- where a node's slots begin by what its base field says, and 0 if it doesn't say that
abbrev pub base_in : Stored → ℕ
base_in (AtBase b) = b
base_in (OwnNumber v) = 0
base_in Nothing = 0

-- where the slots of the node at slot s begin, and 0 if its base field doesn't say that
abbrev pub base_of : Cells → ℕ → ℕ
base_of T s = base_in (T.stored s)

-- the slot of label l below slot s: the exclusive or of the base of s and l. Label 0 is that of the node's number. So
-- `below` turns a slot into its label too
abbrev pub below : Cells → ℕ → ℕ → ℕ
below T s l = bit_xor (base_of T s) l

-- where the chain of a node's labels begins, and how the node keeps its number
pub data Head : Type 0 where
  -- no number: the chain begins in the node's own `child`
  plain : Head
  -- a number in a slot, which has the node as its check, the number as its base field and `child` 0; the node's own
  -- `child` is 0, and the chain begins in the `sibling` of the number's slot
  valued : ℤ → Head
  -- a number in the node's own base field: `child` is 0, and there are no labels
  own : ℤ → Head
  -- the root: slot 0, whose `child` is 0; the chain begins in its own `sibling`
  top : Head

-- the number of a node with this head, if it has one
abbrev pub number_of : Head → Option ℤ
number_of plain = None
number_of (valued v) = Some v
number_of (own v) = Some v
number_of top = None

-- the labels of all slots that a node owns, the number's slot being label 0
abbrev pub owned_slots : Head → List ℕ → List ℕ
owned_slots plain ls = ls
owned_slots (valued _) ls = 0 ∷ ls
owned_slots (own _) ls = ls
owned_slots top ls = ls

-- x is in the list
abbrev pub Among : List ℕ → ℕ → Type 0
Among [] x = ⊥
Among (y ∷ ys) x = (y ≡ x) ⊎ Among ys x

-- the chain that begins with label c has just these labels. Each is from 1 to 255, its slot has slot s as its check
-- and names the next label in its `sibling`; 0 ends the chain. So no label comes twice
abbrev pub Links : Cells → ℕ → ℕ → List ℕ → Type 0
Links T s c [] = c ≡ 0
Links T s c (l ∷ ls) = (c ≡ l) × (0 < l) × (l < 256) × (T.check (below T s l) ≡ pos s) × Links T s (T.sibling (below T s l)) ls

-- the node at slot s begins as its head says, and its chain has just these labels
abbrev pub Begins : Cells → ℕ → Head → List ℕ → Type 0
Begins T s plain ls = Links T s (T.child s) ls
Begins T s (valued v) ls = (T.child s ≡ 0) × (T.check (below T s 0) ≡ pos s) × (T.base (below T s 0) ≡ v) × (T.child (below T s 0) ≡ 0) × Links T s (T.sibling (below T s 0)) ls
Begins T s (own v) ls = (T.child s ≡ 0) × (ls ≡ [])
Begins T s top ls = (s ≡ 0) × (T.child s ≡ 0) × Links T s (T.sibling s) ls

-- a base that is outside block 0 and in use: from 256 to below `size`
abbrev pub InRange : ℕ → Stored → Type 0
InRange size st = (256 ≤ base_in st) × (base_in st < size)

-- where the base of a node with this head and these labels lies. A node with a number's slot or a label has one in
-- range (`InRange`), the root the base 0; a node that keeps its number itself says that number. A leaf without number
-- may have no base (0), which occurs only in the middle of an edit
abbrev pub Based : ℕ → Stored → Head → List ℕ → Type 0
Based size st plain [] = (st ≡ AtBase 0) ⊎ InRange size st
Based size st plain (l ∷ ls) = InRange size st
Based size st (valued v) ls = InRange size st
Based size st (own v) ls = st ≡ OwnNumber v
Based size st top ls = st ≡ AtBase 0

-- slot s is a node with this head and these labels, and owns no other slot. Nothing is said of the slots below it
pub record Family (size : ℕ) (T : Cells) (s : ℕ) (h : Head) (ls : List ℕ) : Type 0 where
  pub based : Based size (T.stored s) h ls
  pub begins : Begins T s h ls
  -- each slot that has s as its check is that of one of these labels, or that of the number
  pub only : (q : ℕ) → T.check q ≡ pos s → Among (owned_slots h ls) (below T s q)

-- slot s is a node with this number and these labels, by some head (`Family`)
pub record Node (size : ℕ) (T : Cells) (s : ℕ) (n : Option ℤ) (ls : List ℕ) : Type 0 where
  pub head : Head
  pub number : number_of head ≡ n
  pub family : Family size T s head ls
