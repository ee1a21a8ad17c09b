-- The free slots of a block, and the ring that they are in.
use Rattle.std.specs.Prelude.{All, bit_xor, true, ◌≡◌, ℕ, ◌/◌, ◌<◌, Bool, not, ◌&&◌, cond, ◌==◌}
use Rattle.std.specs.Prelude.{List, slice_index_or, slice_set, ℤ, pos, neg_ℤ, int_lt, unsigned_abs}
use Rattle.cedar_slots.specs.declared.records.NodeRecord.{NodeRecord}
use Rattle.cedar_slots.specs.declared.records.NInfoRecord.{NInfoRecord}
use Rattle.cedar_slots.specs.Ring.{occurs, Ring}

-- the records of all slots: `nodes` have base and check, `infos` have the labels `sibling` and `child`
pub record SlotFields : Type 0 where
  pub nodes : List NodeRecord
  pub infos : List NInfoRecord

-- the node record of a slot that is not in use
abbrev pub blank_node : NodeRecord
blank_node = record { base = pos 0; check = pos 0 }

-- the info record of a slot that is not in use, and of a free one
abbrev pub blank_info : NInfoRecord
blank_info = record { sibling = 0; child = 0 }

-- the node record of slot s; a blank one behind the end
abbrev pub node_record_at : List NodeRecord → ℕ → NodeRecord
node_record_at nodes s = slice_index_or nodes s blank_node

-- the info record of slot s; a blank one behind the end
abbrev pub info_at : List NInfoRecord → ℕ → NInfoRecord
info_at infos s = slice_index_or infos s blank_info

-- the check of slot s; 0 behind the end
abbrev pub check_at : List NodeRecord → ℕ → ℤ
check_at nodes s = (node_record_at nodes s).check

-- the base of slot s; 0 behind the end
abbrev pub base_at : List NodeRecord → ℕ → ℤ
base_at nodes s = (node_record_at nodes s).base

-- the nodes once slot s has the check z
abbrev pub set_check : List NodeRecord → ℕ → ℤ → List NodeRecord
set_check nodes s z = slice_set nodes s (record { base = base_at nodes s; check = z })

-- the nodes once slot s has the base z
abbrev pub set_base : List NodeRecord → ℕ → ℤ → List NodeRecord
set_base nodes s z = slice_set nodes s (record { base = z; check = check_at nodes s })

-- the free slot b comes after the free slot a in their ring: the check of a is minus b, and the base of b is minus a
abbrev pub SlotLink : List NodeRecord → ℕ → ℕ → Type 0
SlotLink nodes a b = (check_at nodes a ≡ neg_ℤ (pos b)) × (base_at nodes b ≡ neg_ℤ (pos a))

-- the nodes once slot b comes after slot a
unfoldable pub nodes_after_link : List NodeRecord → ℕ → ℕ → List NodeRecord
nodes_after_link nodes a b = set_base (set_check nodes a (neg_ℤ (pos b))) b (neg_ℤ (pos a))

-- the nodes once s has left its ring, where it was between a and b, and holds the node given
abbrev pub taken_between : List NodeRecord → ℕ → ℕ → ℕ → NodeRecord → List NodeRecord
taken_between nodes a b s node = slice_set (nodes_after_link nodes a b) s node

-- the nodes once slot s has left its ring and holds the node given
unfoldable pub nodes_after_take : List NodeRecord → ℕ → NodeRecord → List NodeRecord
nodes_after_take nodes s node = taken_between nodes (unsigned_abs (base_at nodes s)) (unsigned_abs (check_at nodes s)) s node

-- whether a slot is free: its check is below 0, and it isn't the root
abbrev pub is_free : List NodeRecord → ℕ → Bool
is_free nodes s = not (s == 0) && int_lt (check_at nodes s) (pos 0)

-- the slot base xor label is free for each of these labels
abbrev pub AllFree : List NodeRecord → ℕ → List ℕ → Type 0
AllFree nodes base labels = All (λ label. is_free nodes (bit_xor base label) ≡ true) labels

-- xs has each free slot of block b once, and nothing else; they are linked as a ring, and their labels are 0
pub record FreeRing (nodes : List NodeRecord) (infos : List NInfoRecord) (b : ℕ) (xs : List ℕ) : Type 0 where
  pub once : (s : ℕ) → occurs s xs ≡ cond (is_free nodes s && (s / 256 == b)) 1 0
  pub is_linked : Ring (SlotLink nodes) xs
  pub cleared : (s : ℕ) → 0 < occurs s xs → info_at infos s ≡ blank_info

-- the node of each slot outside the block b is as it was
abbrev pub SameOutside : ℕ → List NodeRecord → List NodeRecord → Type 0
SameOutside b before after = (s : ℕ) → (s / 256 ≡ b → ⊥) → node_record_at after s ≡ node_record_at before s

-- the nodes once the slot s is in a ring of its own
unfoldable pub given_alone : List NodeRecord → ℕ → List NodeRecord
given_alone nodes s = nodes_after_link nodes s s

-- the nodes once s is between a and b
abbrev pub given_between : List NodeRecord → ℕ → ℕ → ℕ → List NodeRecord
given_between nodes a b s = nodes_after_link (nodes_after_link nodes a s) s b

-- the nodes once s comes after the free slot h
unfoldable pub given_after : List NodeRecord → ℕ → ℕ → List NodeRecord
given_after nodes h s = given_between nodes h (unsigned_abs (check_at nodes h)) s
