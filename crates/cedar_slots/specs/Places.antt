-- What holds of a table between any two of its operations.
use Rattle.std.specs.Prelude.{bit_xor, ◌≡◌, ℕ, ◌+◌, ◌*◌, ◌/◌, ◌^◌, ◌<◌, ◌≤◌, ◌≤ℤ◌, ℤ, true, false}
use Rattle.std.specs.Prelude.{◌⊎◌, cond, ◌==◌, List, [], ◌∷◌, length, pos, replicate, slice_index_or}
use Rattle.cedar_slots.specs.Blocks.{blank_block, block_at, BlockFields, counts_at}
use Rattle.cedar_slots.specs.Blocks.{HasLists, head_of, kind_of, Sized}
use Rattle.cedar_slots.specs.declared.blocks.BlockType.{BlockType}
use Rattle.cedar_slots.specs.declared.blocks.BlockType.TheVariants.{Open}
use Rattle.cedar_slots.specs.declared.shortage.Shortage.{Shortage}
use Rattle.cedar_slots.specs.declared.shortage.Shortage.TheVariants.{Memory, SlotLimit}
use Rattle.cedar_slots.specs.declared.blocks.Counts.{Counts}
use Rattle.cedar_slots.specs.declared.records.BlockRecord.{BlockRecord}
use Rattle.cedar_slots.specs.declared.records.NodeRecord.{NodeRecord}
use Rattle.cedar_slots.specs.Slots.{AllFree, blank_info, blank_node, FreeRing, info_at, is_free}
use Rattle.cedar_slots.specs.Slots.{node_record_at, SlotFields, SlotLink}
use Rattle.cedar_slots.specs.Ring.{first_of}

-- the slots, the blocks that they are in, and the reject values, as a file has them too
pub record PlaceFields : Type 0 where
  pub slots : SlotFields
  pub blocks : BlockFields
  pub reject : List ℤ

-- the counts of block b, whose free slots are xs. `num` is how many these are, in block 0 one more for the root.
-- `e_head` is the free slot from which the ring is entered; if no slot is free, it may be anything
pub record Counted (counts : Counts) (b : ℕ) (xs : List ℕ) : Type 0 where
  pub num : counts.num ≡ pos (length xs + cond (b == 0) 1 0)
  pub e_head : 0 < length xs → counts.e_head ≡ pos (first_of xs)

-- xs are the free slots of block b, in the order of their ring, from its `e_head` on
pub record FreeBlock (table : PlaceFields) (b : ℕ) (xs : List ℕ) : Type 0 where
  pub ring : FreeRing table.slots.nodes table.slots.infos b xs
  pub counted : Counted (counts_at table.blocks.records b) b xs

-- each block in use has the ring of its free slots
abbrev pub HasFree : PlaceFields → Type 0
HasFree table = (b : ℕ) → b < table.blocks.active → (xs : List ℕ) × FreeBlock table b xs

-- z lies from low to high
pub record Within (low z high : ℤ) : Type 0 where
  pub least : low ≤ℤ z
  pub most : z ≤ℤ high

-- the reject value of a block is from 1 to 257, and its failed searches are at most `max_trial`
pub record Bounded (max_trial : ℤ) (counts : Counts) : Type 0 where
  pub reject : Within (pos 1) counts.reject (pos 257)
  pub trial : Within (pos 0) counts.trial max_trial

-- the reject value for i free slots; 1 behind the end of the list
abbrev pub reject_at : List ℤ → ℕ → ℤ
reject_at rejects i = slice_index_or rejects i (pos 1)

-- there is a reject value for each number of free slots from 0 to 256, from 1 to one more than that number
pub record Rejects (rejects : List ℤ) : Type 0 where
  pub len : length rejects ≡ 257
  pub value : (i : ℕ) → i ≤ 256 → Within (pos 1) (reject_at rejects i) (pos (i + 1))

-- the figures that prune a search for places are in range; in block 0 no search is tried
pub record Pruned (blocks : BlockFields) : Type 0 where
  pub max_trial : pos 1 ≤ℤ blocks.max_trial
  pub bounded : (b : ℕ) → b < blocks.active → Bounded blocks.max_trial (counts_at blocks.records b)
  pub root : (counts_at blocks.records 0).trial ≡ pos 0

-- what is not in use is blank
pub record Inactive (table : PlaceFields) : Type 0 where
  pub nodes : (s : ℕ) → 256 * table.blocks.active ≤ s → node_record_at table.slots.nodes s ≡ blank_node
  pub infos : (s : ℕ) → 256 * table.blocks.active ≤ s → info_at table.slots.infos s ≡ blank_info
  pub blocks : (b : ℕ) → table.blocks.active ≤ b → block_at table.blocks.records b ≡ blank_block

-- how large the parts of a table are: a node record and an info record for each slot, and 256 slots for each block
pub record Shaped (table : PlaceFields) : Type 0 where
  pub blocks : Sized table.blocks
  pub nodes : length table.slots.nodes ≡ 256 * length table.blocks.records
  pub infos : length table.slots.infos ≡ length table.slots.nodes

-- n is a power of two
abbrev pub IsPowerOfTwo : ℕ → Type 0
IsPowerOfTwo n = (k : ℕ) × (n ≡ 2 ^ k)

-- what holds between any two calls. The free slots are in rings, the blocks in lists, a search stays in range, the
-- number of blocks is a power of two, and what is not in use is blank. Nothing is said of the order of a ring or of a
-- list, nor of the exact reject values
pub record Sound (table : PlaceFields) : Type 0 where
  pub shaped : Shaped table
  pub doubled : IsPowerOfTwo (length table.blocks.records)
  pub free : HasFree table
  pub lists : HasLists table.blocks
  pub pruned : Pruned table.blocks
  pub rejects : Rejects table.reject
  pub inactive : Inactive table

-- the slot e, which was free, is held and has the node given, and no other held slot has changed
pub record TakesSlot (before after : SlotFields) (e : ℕ) (node : NodeRecord) : Type 0 where
  pub holds : node_record_at after.nodes e ≡ node
  pub used : is_free after.nodes e ≡ false
  pub free : (s : ℕ) → (s ≡ e → ⊥) → is_free after.nodes s ≡ is_free before.nodes s
  pub kept : (s : ℕ) → (s ≡ e → ⊥) → is_free before.nodes s ≡ false → node_record_at after.nodes s ≡ node_record_at before.nodes s
  pub infos : after.infos ≡ before.infos

-- the slot e, which was held, is free, and no other held slot has changed
pub record FreesSlot (before after : SlotFields) (e : ℕ) : Type 0 where
  pub now_free : is_free after.nodes e ≡ true
  pub free : (s : ℕ) → (s ≡ e → ⊥) → is_free after.nodes s ≡ is_free before.nodes s
  pub kept : (s : ℕ) → (s ≡ e → ⊥) → is_free before.nodes s ≡ false → node_record_at after.nodes s ≡ node_record_at before.nodes s
  pub infos : (s : ℕ) → (s ≡ e → ⊥) → info_at after.infos s ≡ info_at before.infos s
  pub blank : info_at after.infos e ≡ blank_info

-- the two tables are the same, but that blank slots and blocks may have come to the ends of their lists
pub record Grown (before after : PlaceFields) : Type 0 where
  pub nodes : (s : ℕ) → node_record_at after.slots.nodes s ≡ node_record_at before.slots.nodes s
  pub infos : (s : ℕ) → info_at after.slots.infos s ≡ info_at before.slots.infos s
  pub records : (b : ℕ) → block_at after.blocks.records b ≡ block_at before.blocks.records b
  pub heads : (list : BlockType) → head_of after.blocks list ≡ head_of before.blocks list
  pub active : after.blocks.active ≡ before.blocks.active
  pub max_trial : after.blocks.max_trial ≡ before.blocks.max_trial
  pub reject : after.reject ≡ before.reject

-- how many blocks a table has once one was made: their number doubles where all are in use
abbrev pub room_for_one : PlaceFields → ℕ
room_for_one table = cond (table.blocks.active == length table.blocks.records) (2 * length table.blocks.records) (length table.blocks.records)

-- the block b has come into use, with all of its slots free, and no other slot has changed
pub record AddsBlock (before after : PlaceFields) (b : ℕ) : Type 0 where
  pub is_next : b ≡ before.blocks.active
  pub active : after.blocks.active ≡ before.blocks.active + 1
  pub free : (s : ℕ) → s / 256 ≡ b → is_free after.slots.nodes s ≡ true
  pub nodes : (s : ℕ) → (s / 256 ≡ b → ⊥) → node_record_at after.slots.nodes s ≡ node_record_at before.slots.nodes s
  pub infos : (s : ℕ) → info_at after.slots.infos s ≡ info_at before.slots.infos s
  pub capacity : length after.blocks.records ≡ room_for_one before
  pub max_trial : after.blocks.max_trial ≡ before.blocks.max_trial

-- a number of slots that a table may have: a power of two from 256 to 2^30
pub record IsSlotLimit (slots : ℕ) : Type 0 where
  pub power : (k : ℕ) × (slots ≡ 256 * 2 ^ k)
  pub most : slots ≤ 2 ^ 30

-- the table is sound, and has no more than `slots` slots, which are a limit of slots
pub record IsTable (slots : ℕ) (table : PlaceFields) : Type 0 where
  pub sound : Sound table
  pub limit : IsSlotLimit slots
  pub within : 256 * length table.blocks.records ≤ slots

-- when a table may refuse a new block: for memory only where its lists have to grow and may, and for slots only where
-- all `slots` are in use
abbrev pub MayRefuse : PlaceFields → ℕ → Shortage → Type 0
MayRefuse table slots Memory = (table.blocks.active ≡ length table.blocks.records) × (256 * table.blocks.active < slots)
MayRefuse table slots SlotLimit = 256 * table.blocks.active ≡ slots

-- the slot is a place: free, in use and outside block 0
pub record IsFreePlace (table : PlaceFields) (slot : ℕ) : Type 0 where
  pub free : is_free table.slots.nodes slot ≡ true
  pub not_root : 0 < slot / 256
  pub is_active : slot / 256 < table.blocks.active

-- no slot outside block 0 is free
abbrev pub NoneFree : PlaceFields → Type 0
NoneFree table = (slot : ℕ) → 0 < slot / 256 → slot / 256 < table.blocks.active → is_free table.slots.nodes slot ≡ false

-- the block b has come into use, where no slot outside block 0 was free
abbrev pub AddsNeededBlock : PlaceFields → PlaceFields → ℕ → Type 0
AddsNeededBlock before after b = NoneFree before × AddsBlock before after b

-- the block b is in the open list
pub record IsOpenBlock (blocks : BlockFields) (b : ℕ) : Type 0 where
  pub not_root : 0 < b
  pub is_active : b < blocks.active
  pub open_kind : kind_of blocks.max_trial (counts_at blocks.records b) ≡ Open

-- a base outside block 0 from which each label's slot is free
pub record IsBase (table : PlaceFields) (base : ℕ) (labels : List ℕ) : Type 0 where
  pub not_root : 0 < base / 256
  pub is_active : base / 256 < table.blocks.active
  pub free : AllFree table.slots.nodes base labels

-- a free slot of the block b from which each label's slot is free, if the first label is on it
pub record IsStart (table : PlaceFields) (b slot : ℕ) (labels : List ℕ) : Type 0 where
  pub free : is_free table.slots.nodes slot ≡ true
  pub here : slot / 256 ≡ b
  pub fits : AllFree table.slots.nodes (bit_xor slot (slice_index_or labels 0 0)) labels

-- the slots are the same, and as many are in use
pub record SameSlots (before after : PlaceFields) : Type 0 where
  pub slots : after.slots ≡ before.slots
  pub active : after.blocks.active ≡ before.blocks.active
  pub len : length after.blocks.records ≡ length before.blocks.records
  pub max_trial : after.blocks.max_trial ≡ before.blocks.max_trial

-- the slots are the same, or the block b has come into use
abbrev pub KeepsOrAdds : PlaceFields → PlaceFields → ℕ → Type 0
KeepsOrAdds before after b = SameSlots before after ⊎ AddsBlock before after b

-- the first block, in which the root alone is held
abbrev pub root_block : BlockRecord
root_block = record { prev = pos 0; next = pos 0; num = pos 256; reject = pos 257; trial = pos 0; e_head = pos 1 }

-- one block, whose slots but the root's are free, each linked to the next one in their ring
pub record IsNewPlaces (places : PlaceFields) (trials : ℤ) : Type 0 where
  pub nodes_len : length places.slots.nodes ≡ 256
  pub steps : (s : ℕ) → 1 ≤ s → s < 255 → SlotLink places.slots.nodes s (s + 1)
  pub last : SlotLink places.slots.nodes 255 1
  pub infos : places.slots.infos ≡ replicate 256 blank_info
  pub records : places.blocks.records ≡ root_block ∷ []
  pub heads : (list : BlockType) → head_of places.blocks list ≡ pos 0
  pub active : places.blocks.active ≡ 1
  pub max_trial : places.blocks.max_trial ≡ trials
  pub rejects_len : length places.reject ≡ 257
  pub rejects : (i : ℕ) → i ≤ 256 → reject_at places.reject i ≡ pos (i + 1)
