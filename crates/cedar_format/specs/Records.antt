-- The bytes of records: their fields one after another.
use Rattle.std.specs.Prelude.{All, ℕ, ℤ, ◌<◌, List, [], ◌∷◌, ◌++◌}
use Rattle.std.specs.List.{concat, flat_map}
use Rattle.cedar_slots.specs.declared.records.NodeRecord.{NodeRecord}
use Rattle.cedar_slots.specs.declared.records.NInfoRecord.{NInfoRecord}
use Rattle.cedar_slots.specs.declared.records.BlockRecord.{BlockRecord}
use Rattle.cedar_format.specs.Numbers.{i16_bytes, i32_bytes, IsI16, IsI32}
use Rattle.cedar_format.specs.declared.body.Decoded.{Decoded}

-- the bytes of a slot's base and check
abbrev pub node_bytes : NodeRecord → List ℕ
node_bytes node = concat (i32_bytes node.base ∷ i32_bytes node.check ∷ [])

-- the bytes of a slot's labels, sibling and child
abbrev pub info_bytes : NInfoRecord → List ℕ
info_bytes info = info.sibling ∷ info.child ∷ []

-- the bytes of a block's record
abbrev pub block_bytes : BlockRecord → List ℕ
block_bytes block = concat (i32_bytes block.prev ∷ i32_bytes block.next ∷ i16_bytes block.num ∷ i16_bytes block.reject ∷ i32_bytes block.trial ∷ i32_bytes block.e_head ∷ [])

-- the bytes of the four lists, one after another
abbrev pub body_bytes : List NodeRecord → List NInfoRecord → List BlockRecord → List ℤ → List ℕ
body_bytes nodes infos blocks reject = flat_map node_bytes nodes ++ (flat_map info_bytes infos ++ (flat_map block_bytes blocks ++ flat_map i16_bytes reject))

-- the bytes of the four lists of a file that was read
abbrev pub decoded_bytes : {A : Type 0} → Decoded A → List ℕ
decoded_bytes d = body_bytes d.nodes.items d.n_infos.items d.blocks.items d.reject.items

-- base and check lie in the range of their type
pub record FitsNode (node : NodeRecord) : Type 0 where
  pub base : IsI32 node.base
  pub check : IsI32 node.check

-- sibling and child are bytes
pub record FitsInfo (info : NInfoRecord) : Type 0 where
  pub sibling : info.sibling < 256
  pub child : info.child < 256

-- each field of a block's record lies in the range of its type
pub record FitsBlock (block : BlockRecord) : Type 0 where
  pub prev : IsI32 block.prev
  pub next : IsI32 block.next
  pub num : IsI16 block.num
  pub reject : IsI16 block.reject
  pub trial : IsI32 block.trial
  pub e_head : IsI32 block.e_head

-- each number of the four lists lies in the range of its type
pub record FitsBody (slots : List NodeRecord) (labels : List NInfoRecord) (records : List BlockRecord) (values : List ℤ) : Type 0 where
  pub nodes : All FitsNode slots
  pub infos : All FitsInfo labels
  pub blocks : All FitsBlock records
  pub reject : All IsI16 values
