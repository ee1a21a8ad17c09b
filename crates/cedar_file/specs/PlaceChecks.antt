-- What a check of slots and blocks that nobody has vouched for looks for.
use Rattle.std.specs.Prelude.{◌≡◌, ℕ, ◌*◌, ◌/◌, ◌≤◌, ◌&&◌, Bool, true, false, cond, ◌==◌, nat_lt}
use Rattle.std.specs.Prelude.{List, MatchResult, Result, pos, count_by}
use Rattle.std.specs.List.{range_with_len}
use Rattle.cedar_slots.specs.Blocks.{blank_block, block_at, BlockFields, BlockLink}
use Rattle.cedar_slots.specs.Blocks.{counts_at, head_of, kind_of, ring_of}
use Rattle.cedar_slots.specs.declared.blocks.BlockType.{BlockType}
use Rattle.cedar_slots.specs.declared.blocks.BlockType.TheVariants.{Open, Closed, Full}
use Rattle.cedar_slots.specs.declared.records.NodeRecord.{NodeRecord}
use Rattle.cedar_slots.specs.Places.{Bounded, PlaceFields}
use Rattle.cedar_slots.specs.Ring.{first_of, occurs, Ring}
use Rattle.cedar_slots.specs.Slots.{blank_info, blank_node, info_at, is_free}
use Rattle.cedar_slots.specs.Slots.{node_record_at, SlotFields}

-- xs has each number that passes the test once, and nothing else, linked as a ring that begins at `first`
pub record RingOf (Link : ℕ → ℕ → Type 0) (test : ℕ → Bool) (first : ℕ) (xs : List ℕ) : Type 0 where
  pub once : (x : ℕ) → occurs x xs ≡ cond (test x) 1 0
  pub is_linked : Ring Link xs
  pub begins : first_of xs ≡ first

-- there is such a list (`RingOf`)
abbrev pub HasRing : (ℕ → ℕ → Type 0) → (ℕ → Bool) → ℕ → Type 0
HasRing Link test first = (xs : List ℕ) × RingOf Link test first xs

-- y is linked to x and passes the test: the next step of a walk along such a ring
abbrev pub IsAfter : (ℕ → ℕ → Type 0) → (ℕ → Bool) → ℕ → ℕ → Type 0
IsAfter Link test x y = Link x y × (test y ≡ true)

-- the answer is the next step of a walk along such a ring (`IsAfter`), or there is none
abbrev pub StepsFrom : {E : Type 0} → (ℕ → ℕ → Type 0) → (ℕ → Bool) → ℕ → Result ℕ E → Type 0
StepsFrom Link test x result = MatchResult result (IsAfter Link test x) (λ _. (next : ℕ) → ¬ IsAfter Link test x next)

-- how many of the n numbers from `low` on pass the test: so many steps has the walk along the ring
unfoldable pub passing_count : (ℕ → Bool) → ℕ → ℕ → ℕ
passing_count test low n = count_by test (range_with_len low n)

-- whether slot s is in block b and free
abbrev pub free_here : List NodeRecord → ℕ → ℕ → Bool
free_here nodes b s = is_free nodes s && (s / 256 == b)

-- how many slots of the block b are free
abbrev pub free_count : List NodeRecord → ℕ → ℕ
free_count nodes b = passing_count (free_here nodes b) (256 * b) 256

-- no free slot of the block b has a label
abbrev pub HasBlankLabels : SlotFields → ℕ → Type 0
HasBlankLabels slots b = (s : ℕ) → is_free slots.nodes s ≡ true → s / 256 ≡ b → info_at slots.infos s ≡ blank_info

-- the slots that are not in use are blank
abbrev pub BlankSlots : PlaceFields → Type 0
BlankSlots table = (s : ℕ) → 256 * table.blocks.active ≤ s → (node_record_at table.slots.nodes s ≡ blank_node) × (info_at table.slots.infos s ≡ blank_info)

-- the blocks that are not in use are blank
abbrev pub BlankBlocks : BlockFields → Type 0
BlankBlocks blocks = (b : ℕ) → blocks.active ≤ b → block_at blocks.records b ≡ blank_block

-- the reject value and the failed searches of block b are in range; in block 0 no search was tried
pub record CountsInRange (blocks : BlockFields) (b : ℕ) : Type 0 where
  pub bounded : Bounded blocks.max_trial (counts_at blocks.records b)
  pub root : b ≡ 0 → (counts_at blocks.records b).trial ≡ pos 0

-- whether a list is the full one
abbrev pub is_full : BlockType → Bool
is_full Open = false
is_full Closed = false
is_full Full = true

-- whether two lists are the same
abbrev pub same_list : BlockType → BlockType → Bool
same_list Open Open = true
same_list Closed Closed = true
same_list Full Full = true
same_list _ _ = false

-- whether block b is to be in a list's ring: it is in use and its counts name the list, or it is block 0 and the list
-- is the full one
abbrev pub in_ring : BlockFields → BlockType → ℕ → Bool
in_ring blocks list b = nat_lt b blocks.active && cond (b == 0) (is_full list) (same_list (kind_of blocks.max_trial (counts_at blocks.records b)) list)

-- how many blocks are to be in a list's ring
abbrev pub ring_count : BlockFields → BlockType → ℕ
ring_count blocks list = passing_count (in_ring blocks list) 0 blocks.active

-- xs are the blocks of a list: just those that are to be in its ring, linked as a ring that the head begins
pub record ListOf (blocks : BlockFields) (list : BlockType) (xs : List ℕ) : Type 0 where
  pub once : (b : ℕ) → occurs b (ring_of list xs) ≡ cond (in_ring blocks list b) 1 0
  pub is_linked : Ring (BlockLink blocks.records) (ring_of list xs)
  pub headed : head_of blocks list ≡ pos (first_of xs)

-- there is such a list (`ListOf`)
abbrev pub HasList : BlockFields → BlockType → Type 0
HasList blocks list = (xs : List ℕ) × ListOf blocks list xs
