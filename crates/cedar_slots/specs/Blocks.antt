-- The three lists of blocks.
use Rattle.std.specs.Prelude.{◌^◌, ◌≡◌, ℕ, ◌+◌, ◌*◌, ◌<◌, ◌≤◌, ◌||◌, cond, length, List, ◌∷◌}
use Rattle.std.specs.Prelude.{slice_index_or, slice_set, ℤ, pos}
use Rattle.std.specs.Ordering.{int_eq}
use Rattle.cedar_slots.specs.declared.records.BlockRecord.{BlockRecord}
use Rattle.cedar_slots.specs.declared.blocks.Counts.{Counts}
use Rattle.cedar_slots.specs.declared.blocks.BlockType.{BlockType}
use Rattle.cedar_slots.specs.declared.blocks.BlockType.TheVariants.{Open, Closed, Full}
use Rattle.cedar_slots.specs.Ring.{first_of, occurs, Ring}

-- the records of all blocks, the heads of their three lists, how many blocks are in use (`active`), and how many
-- failed searches close a block (`max_trial`)
pub record BlockFields : Type 0 where
  pub records : List BlockRecord
  pub full_head : ℤ
  pub closed_head : ℤ
  pub open_head : ℤ
  pub active : ℕ
  pub max_trial : ℤ

-- the record of a block that is not in use
abbrev pub blank_block : BlockRecord
blank_block = record { prev = pos 0; next = pos 0; num = pos 256; reject = pos 257; trial = pos 0; e_head = pos 0 }

-- the record of block b; a blank one behind the end
abbrev pub block_at : List BlockRecord → ℕ → BlockRecord
block_at blocks b = slice_index_or blocks b blank_block

-- the number of the block that block b names as the next one in its list
abbrev pub next_at : List BlockRecord → ℕ → ℤ
next_at blocks b = (block_at blocks b).next

-- the number of the block that block b names as the one before it in its list
abbrev pub prev_at : List BlockRecord → ℕ → ℤ
prev_at blocks b = (block_at blocks b).prev

-- block b comes after block a: each names the other
abbrev pub BlockLink : List BlockRecord → ℕ → ℕ → Type 0
BlockLink blocks a b = (next_at blocks a ≡ pos b) × (prev_at blocks b ≡ pos a)

-- the records once block b names z as the next one
abbrev pub set_next : List BlockRecord → ℕ → ℤ → List BlockRecord
set_next blocks b z = slice_set blocks b (record (block_at blocks b) { next = z })

-- the records once block b names z as the one before it
abbrev pub set_prev : List BlockRecord → ℕ → ℤ → List BlockRecord
set_prev blocks b z = slice_set blocks b (record (block_at blocks b) { prev = z })

-- the records once block b comes after block a
unfoldable pub linked_blocks : List BlockRecord → ℕ → ℕ → List BlockRecord
linked_blocks blocks a b = set_prev (set_next blocks a (pos b)) b (pos a)

-- the head of a list: the number of its first block, 0 where the list is empty
abbrev pub head_of : BlockFields → BlockType → ℤ
head_of blocks Open = blocks.open_head
head_of blocks Closed = blocks.closed_head
head_of blocks Full = blocks.full_head

-- what a block counts: its record without links
abbrev pub counts_of : BlockRecord → Counts
counts_of block = record { num = block.num; reject = block.reject; trial = block.trial; e_head = block.e_head }

-- what block b counts
abbrev pub counts_at : List BlockRecord → ℕ → Counts
counts_at blocks b = counts_of (block_at blocks b)

-- what block b counts while all of its slots are free
abbrev pub fresh_counts : ℕ → Counts
fresh_counts b = record { num = pos 256; reject = pos 257; trial = pos 0; e_head = pos (256 * b) }

-- the list that a block's counts name: the full one if no slot is free, the closed one if one slot is free or as many
-- searches have failed as close a block, and else the open one
abbrev pub kind_of : ℤ → Counts → BlockType
kind_of max_trial counts = cond (int_eq counts.num (pos 0)) Full (cond (int_eq counts.num (pos 1) || int_eq counts.trial max_trial) Closed Open)

-- the members of a list's ring: those of the list, and in the full ring block 0 besides
abbrev pub ring_of : BlockType → List ℕ → List ℕ
ring_of Open xs = xs
ring_of Closed xs = xs
ring_of Full xs = 0 ∷ xs

-- the three lists, one of which is now xs
abbrev pub lists_with : (BlockType → List ℕ) → BlockType → List ℕ → BlockType → List ℕ
lists_with lists Open xs Open = xs
lists_with lists Open xs Closed = lists Closed
lists_with lists Open xs Full = lists Full
lists_with lists Closed xs Open = lists Open
lists_with lists Closed xs Closed = xs
lists_with lists Closed xs Full = lists Full
lists_with lists Full xs Open = lists Open
lists_with lists Full xs Closed = lists Closed
lists_with lists Full xs Full = xs

-- how often a block occurs in the three rings
abbrev pub total : (BlockType → List ℕ) → ℕ → ℕ
total lists b = occurs b (ring_of Full (lists Full)) + occurs b (lists Closed) + occurs b (lists Open)

-- three lists that have no block twice, each linked as a ring that its head begins
pub record ListRings (blocks : BlockFields) (lists : BlockType → List ℕ) : Type 0 where
  pub apart : (b : ℕ) → total lists b ≤ 1
  pub is_linked : (list : BlockType) → Ring (BlockLink blocks.records) (ring_of list (lists list))
  pub headed : (list : BlockType) → head_of blocks list ≡ pos (first_of (lists list))

-- the lists have each block in use but block 0, each in the list that its counts name, and no other block
pub record BlockLists (blocks : BlockFields) (lists : BlockType → List ℕ) : Type 0 where
  pub rings : ListRings blocks lists
  pub listed : (b : ℕ) → 0 < b → b < blocks.active → occurs b (lists (kind_of blocks.max_trial (counts_at blocks.records b))) ≡ 1
  pub only : (list : BlockType) (b : ℕ) → 0 < occurs b (lists list) → (0 < b) × (b < blocks.active) × (kind_of blocks.max_trial (counts_at blocks.records b) ≡ list)

-- there are three such lists (`BlockLists`)
abbrev pub HasLists : BlockFields → Type 0
HasLists blocks = (lists : BlockType → List ℕ) × BlockLists blocks lists

-- no block's counts have changed
abbrev pub KeepsCounts : List BlockRecord → List BlockRecord → Type 0
KeepsCounts before after = (b : ℕ) → counts_at after b ≡ counts_at before b

-- no block's links have changed
abbrev pub KeepsLinks : List BlockRecord → List BlockRecord → Type 0
KeepsLinks before after = (b : ℕ) → (next_at after b ≡ next_at before b) × (prev_at after b ≡ prev_at before b)

-- the blocks from n on are as they were
abbrev pub SameFrom : ℕ → List BlockRecord → List BlockRecord → Type 0
SameFrom n before after = (b : ℕ) → n ≤ b → block_at after b ≡ block_at before b

-- block 0 is in use, each block in use is there, and there are at most 2^22 blocks
pub record Sized (blocks : BlockFields) : Type 0 where
  pub some : 0 < blocks.active
  pub active_in : blocks.active ≤ length blocks.records
  pub fits : length blocks.records ≤ 2 ^ 22

-- block b, which no list has had, is the first of a list now, and the lists are otherwise as they were
abbrev pub PutsFirst : BlockFields → BlockFields → BlockType → ℕ → Type 0
PutsFirst before after list b =
    (lists : BlockType → List ℕ) → ListRings before lists → total lists b ≡ 0 → ListRings after (lists_with lists list (b ∷ lists list))

-- what is left of the lists once a block has left one
pub record Popped (after : BlockFields) (lists : BlockType → List ℕ) (list : BlockType) (b : ℕ) : Type 0 where
  pub rest : List ℕ
  pub rings : ListRings after (lists_with lists list rest)
  pub others : (x : ℕ) → occurs x (lists list) ≡ occurs x (b ∷ rest)
