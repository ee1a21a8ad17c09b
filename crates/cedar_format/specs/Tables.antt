-- The bytes of a table in each version, and the table of a file's fields.
use Rattle.std.specs.Prelude.{◌≡◌, ℕ, ℤ, ◌/◌, List, ◌++◌, length, take}
use Rattle.cedar_slots.specs.declared.records.NodeRecord.{NodeRecord}
use Rattle.cedar_slots.specs.declared.records.NInfoRecord.{NInfoRecord}
use Rattle.cedar_slots.specs.declared.records.BlockRecord.{BlockRecord}
use Rattle.cedar_model.specs.Table.Layouts.{LayoutKind, layout_byte}
use Rattle.cedar_slots.specs.Blocks.{blank_block}
use Rattle.cedar_slots.specs.Places.{Shaped}
use Rattle.cedar_slots.specs.Slots.{blank_info, blank_node}
use Rattle.cedar_model.specs.Table.TableFields.{Fields, capacity_of, size_of}
use Rattle.cedar_model.specs.Meaning.WellFormed.{IsWellFormed}
use Rattle.cedar_format.specs.declared.header.Header.{Header}
use Rattle.cedar_format.specs.Format.{filled_list, header_bytes, listed_slots}
use Rattle.cedar_format.specs.Format.{listed_bytes, FitsHeader, IsVersion}
use Rattle.cedar_format.specs.Records.{FitsBody}

-- how many slots the file of a table lists in this version
abbrev pub slots_listed : ℕ → Fields → ℕ
slots_listed version T = listed_slots version (capacity_of T) (size_of T)

-- what the header of this version says of a table
abbrev pub header_of : ℕ → Fields → Header
header_of version T = record {
  minor = version;
  ordered = T.ordered;
  max_trial = T.places.blocks.max_trial;
  full_head = T.places.blocks.full_head;
  closed_head = T.places.blocks.closed_head;
  open_head = T.places.blocks.open_head;
  array_len = slots_listed version T;
  n_infos_len = slots_listed version T;
  blocks_len = slots_listed version T / 256;
  reject_len = length T.places.reject;
  capacity = capacity_of T;
  size = size_of T;
  entries = T.entries;
}

-- the bytes of a table's header and of its four lists, as far as this version lists them
abbrev pub table_bytes : ℕ → Fields → List ℕ
table_bytes version T =
    header_bytes (layout_byte T.layout) (header_of version T)
    ++ listed_bytes (slots_listed version T) T.places.slots.nodes T.places.slots.infos T.places.blocks.records T.places.reject

-- each number that is listed lies in the range of its type
pub record FitsTable (version : ℕ) (T : Fields) : Type 0 where
  pub header : FitsHeader (header_of version T)
  pub body : FitsBody (take (slots_listed version T) T.places.slots.nodes) (take (slots_listed version T) T.places.slots.infos) (take (slots_listed version T / 256) T.places.blocks.records) T.places.reject

-- the parts of the table have their sizes, and what this version doesn't list is blank
pub record IsListed (version : ℕ) (T : Fields) : Type 0 where
  pub shaped : Shaped T.places
  pub nodes : T.places.slots.nodes ≡ filled_list blank_node (capacity_of T) (take (slots_listed version T) T.places.slots.nodes)
  pub infos : T.places.slots.infos ≡ filled_list blank_info (capacity_of T) (take (slots_listed version T) T.places.slots.infos)
  pub blocks : T.places.blocks.records ≡ filled_list blank_block (capacity_of T / 256) (take (slots_listed version T / 256) T.places.blocks.records)

-- the table that a file's fields are
abbrev pub file_fields : LayoutKind → Header → List NodeRecord → List NInfoRecord → List BlockRecord → List ℤ → Fields
file_fields kind h nodes infos blocks reject = record {
  layout = kind;
  ordered = h.ordered;
  entries = h.entries;
  places = record {
    slots = record { nodes = nodes; infos = infos };
    blocks = record {
      records = blocks;
      full_head = h.full_head;
      closed_head = h.closed_head;
      open_head = h.open_head;
      active = h.size / 256;
      max_trial = h.max_trial;
    };
    reject = reject;
  };
}

-- the bytes are those of T in this version; T is well-formed for `slots` slots, and fits
pub record IsTableFile (version slots : ℕ) (T : Fields) (bytes : List ℕ) : Type 0 where
  pub known : IsVersion version
  pub formed : IsWellFormed slots T
  pub fits : FitsTable version T
  pub spelled : bytes ≡ table_bytes version T
