-- Formats 1.0 and 1.1: what their bytes mean, and which of them are refused. A version is a minor one, 0 or 1, of
-- major 1.
use Rattle.std.specs.Prelude.{◌≡◌, ◌⊎◌, ℕ, zero, suc, ℤ, pos, ◌+◌, ◌*◌, ◌/◌, ◌%◌, ◌-◌, ◌++◌, ◌==◌}
use Rattle.std.specs.Prelude.{◌&&◌, ◌<◌, ◌≤◌, ◌^◌, nat_lt, nat_le, nat_eq, List, [], ◌∷◌, length}
use Rattle.std.specs.Prelude.{replicate, take, drop, slice_index, Option, None, codes, int_lt}
use Rattle.std.specs.Prelude.{if◌then◌else◌, Result, IsErrAnd}
use Rattle.std.specs.Int.{w16, w32, w64, from_le_bytes, cast_signed, cast_unsigned, is_power_of_two}
use Rattle.std.specs.List.{concat, starts_with}
use Rattle.cedar_slots.specs.declared.records.NodeRecord.{NodeRecord}
use Rattle.cedar_slots.specs.declared.records.NInfoRecord.{NInfoRecord}
use Rattle.cedar_slots.specs.declared.records.BlockRecord.{BlockRecord}
use Rattle.cedar_slots.specs.Blocks.{blank_block}
use Rattle.cedar_slots.specs.Slots.{blank_info, blank_node}
use Rattle.cedar_slots.specs.Places.{IsPowerOfTwo}
use Rattle.cedar_format.specs.Numbers.{i32_bytes, u16_bytes, u64_bytes, IsI32}
use Rattle.cedar_format.specs.Records.{body_bytes, FitsBody}
use Rattle.cedar_format.specs.declared.header.Header.{Header}
use Rattle.cedar_format.specs.Refusal.{Refusal, InvalidMagic, UnsupportedVersion}
use Rattle.cedar_format.specs.Refusal.{UnsupportedByteOrder, LayoutMismatch, InvalidHeader}
use Rattle.cedar_format.specs.Refusal.{AllocationLimitExceeded, Truncated, TrailingData, unless}
use Rattle.cedar_format.specs.Refusal.{first_refusal, refusal}
use Rattle.cedar_format.specs.declared.error.CedarPersistenceError.{CedarPersistenceError}
use Rattle.cedar_format.specs.Reading.{BeginsWithFront, LacksTable}

-- the byte at a position
abbrev pub u8_at : ℕ → List ℕ → ℕ
u8_at at bytes = slice_index bytes at

-- the unsigned number of 16 bits at a position, the lowest byte first
unfoldable pub u16_at : ℕ → List ℕ → ℕ
u16_at at bytes = from_le_bytes w16 (drop at bytes)

-- the signed number of 32 bits at a position, the lowest byte first
unfoldable pub i32_at : ℕ → List ℕ → ℤ
i32_at at bytes = cast_signed w32 (from_le_bytes w32 (drop at bytes))

-- the unsigned number of 64 bits at a position, the lowest byte first
unfoldable pub u64_at : ℕ → List ℕ → ℕ
u64_at at bytes = from_le_bytes w64 (drop at bytes)

-- the first eight bytes of a file: `CEDARW` and two bytes 0
abbrev pub magic : List ℕ
magic = 67 ∷ 69 ∷ 68 ∷ 65 ∷ 82 ∷ 87 ∷ 0 ∷ 0 ∷ []

-- the header's fields that are at their positions in the first 88 bytes
abbrev pub header_at : List ℕ → Header
header_at bytes = record {
  minor = u16_at 10 bytes;
  ordered = u16_at 14 bytes == 1;
  max_trial = i32_at 16 bytes;
  full_head = i32_at 20 bytes;
  closed_head = i32_at 24 bytes;
  open_head = i32_at 28 bytes;
  array_len = u64_at 32 bytes;
  n_infos_len = u64_at 40 bytes;
  blocks_len = u64_at 48 bytes;
  reject_len = u64_at 56 bytes;
  capacity = u64_at 64 bytes;
  size = u64_at 72 bytes;
  entries = u64_at 80 bytes;
}

-- a step that reads the bytes up to a position refuses where they aren't there
abbrev pub reads_to : ℕ → List ℕ → Option Refusal
reads_to end bytes = unless (nat_le end (length bytes)) Truncated

-- the first refusal of the magic bytes and of the version. Before each test the bytes that it reads have to be there
abbrev pub version_refusal : List ℕ → Option Refusal
version_refusal bytes = first_refusal (
    reads_to 8 bytes
    ∷ unless (starts_with nat_eq bytes magic) InvalidMagic
    ∷ reads_to 12 bytes
    ∷ unless ((u16_at 8 bytes == 1) && nat_lt (u16_at 10 bytes) 2) (UnsupportedVersion (u16_at 8 bytes) (u16_at 10 bytes))
    ∷ [])

-- the first refusal of the byte order, the layout and the flags. Before each test the bytes that it reads have to be
-- there
abbrev pub kind_refusal : ℕ → List ℕ → Option Refusal
kind_refusal layout bytes = first_refusal (
    reads_to 13 bytes
    ∷ unless (u8_at 12 bytes == 1) (UnsupportedByteOrder (u8_at 12 bytes))
    ∷ reads_to 14 bytes
    ∷ unless (u8_at 13 bytes == layout) (LayoutMismatch layout (u8_at 13 bytes))
    ∷ reads_to 16 bytes
    ∷ unless (nat_lt (u16_at 14 bytes) 2) (InvalidHeader (codes "flags") (u16_at 14 bytes))
    ∷ [])

-- the first refusal of the steps of a header: magic, version, byte order, layout, flags, and that 88 bytes are there.
-- Before each test the bytes that it reads have to be there, else it is `Truncated`
abbrev pub header_refusal : ℕ → List ℕ → Option Refusal
header_refusal layout bytes = first_refusal (version_refusal bytes ∷ kind_refusal layout bytes ∷ reads_to 88 bytes ∷ [])

-- the flags of a header: 1 if labels ascend, and else 0
abbrev pub flags_of : Header → ℕ
flags_of h = if h.ordered then 1 else 0

-- the 88 bytes of a header of this layout: `magic`, version 1 and the minor one of `h`, byte order 1, the layout's
-- byte, the flags, and then the fields of `h`, one after another
abbrev pub header_bytes : ℕ → Header → List ℕ
header_bytes layout h = concat (
    magic
    ∷ u16_bytes 1
    ∷ u16_bytes h.minor
    ∷ (1 ∷ layout ∷ [])
    ∷ u16_bytes (flags_of h)
    ∷ i32_bytes h.max_trial
    ∷ i32_bytes h.full_head
    ∷ i32_bytes h.closed_head
    ∷ i32_bytes h.open_head
    ∷ u64_bytes h.array_len
    ∷ u64_bytes h.n_infos_len
    ∷ u64_bytes h.blocks_len
    ∷ u64_bytes h.reject_len
    ∷ u64_bytes h.capacity
    ∷ u64_bytes h.size
    ∷ u64_bytes h.entries
    ∷ [])

-- a minor version that is read: 0 or 1
abbrev pub IsVersion : ℕ → Type 0
IsVersion version = version < 2

-- each field of a header lies in the range of its type
pub record FitsHeader (h : Header) : Type 0 where
  pub minor : h.minor < 2 ^ 16
  pub max_trial : IsI32 h.max_trial
  pub full_head : IsI32 h.full_head
  pub closed_head : IsI32 h.closed_head
  pub open_head : IsI32 h.open_head
  pub array_len : h.array_len < 2 ^ 64
  pub n_infos_len : h.n_infos_len < 2 ^ 64
  pub blocks_len : h.blocks_len < 2 ^ 64
  pub reject_len : h.reject_len < 2 ^ 64
  pub capacity : h.capacity < 2 ^ 64
  pub size : h.size < 2 ^ 64
  pub entries : h.entries < 2 ^ 64

-- these 88 bytes pass the tests of a header of this layout, and are those of `h`
pub record IsHeader (layout : ℕ) (bytes : List ℕ) (h : Header) : Type 0 where
  pub len : length bytes ≡ 88
  pub accepted : header_refusal layout bytes ≡ None
  pub fields : h ≡ header_at bytes
  pub known : IsVersion h.minor
  pub spelled : bytes ≡ header_bytes layout h
  pub fits : FitsHeader h

-- the most bytes that a load asks for, by the capacity and the size in either version
abbrev pub need : Header → ℕ
need h = 2 * (10 * h.capacity + 20 * (h.capacity / 256) + 514) + 18 * h.size + h.capacity / 256

-- how many slots a file of this version lists: the capacity, or from version 1 on the size
abbrev pub listed_slots : ℕ → ℕ → ℕ → ℕ
listed_slots zero capacity size = capacity
listed_slots (suc minor) capacity size = size

-- how many slots a file with this header lists
abbrev pub listed_in : Header → ℕ
listed_in h = listed_slots h.minor h.capacity h.size

-- the bytes of the lists of the first n slots and of their blocks, and of the reject values
abbrev pub listed_bytes : ℕ → List NodeRecord → List NInfoRecord → List BlockRecord → List ℤ → List ℕ
listed_bytes n nodes infos blocks reject = body_bytes (take n nodes) (take n infos) (take (n / 256) blocks) reject

-- a list that is filled up to a length
abbrev pub filled_list : {X : Type 0} → X → ℕ → List X → List X
filled_list blank len xs = xs ++ replicate (len - length xs) blank

-- the bytes of three lists with blanks behind them up to so many slots, and of the reject values
abbrev pub filled_bytes : ℕ → List NodeRecord → List NInfoRecord → List BlockRecord → List ℤ → List ℕ
filled_bytes slots nodes infos blocks reject = body_bytes (filled_list blank_node slots nodes) (filled_list blank_info slots infos) (filled_list blank_block (slots / 256) blocks) reject

-- the numbers of three lists with blanks behind them up to so many slots, and the reject values, lie in the ranges of
-- their types
abbrev pub FitsFilled : ℕ → List NodeRecord → List NInfoRecord → List BlockRecord → List ℤ → Type 0
FitsFilled slots nodes infos blocks reject = FitsBody (filled_list blank_node slots nodes) (filled_list blank_info slots infos) (filled_list blank_block (slots / 256) blocks) reject

-- the first refusal of a header's sizes: the lengths of the lists of slots, by the version; the capacity, a power of
-- two from 256 to `slots`; the size; the other lengths and `entries`; and the `need`, which may not be above `limit`
abbrev pub size_refusal : ℕ → ℕ → Header → Option Refusal
size_refusal slots limit h = first_refusal (
    unless ((h.array_len == listed_in h) && (h.n_infos_len == listed_in h)) (InvalidHeader (codes "node_vector_lengths") h.array_len)
    ∷ unless (is_power_of_two h.capacity && nat_le 256 h.capacity && nat_le h.capacity slots) (InvalidHeader (codes "capacity") h.capacity)
    ∷ unless ((h.size % 256 == 0) && nat_le 256 h.size && nat_le h.size h.capacity) (InvalidHeader (codes "size") h.size)
    ∷ unless ((h.blocks_len == listed_in h / 256) && (h.reject_len == 257) && nat_le h.entries h.size) (InvalidHeader (codes "state_lengths") h.blocks_len)
    ∷ unless (nat_le (need h) limit) (AllocationLimitExceeded (need h) limit)
    ∷ [])

-- how many bytes the four lists of a file have
abbrev pub body_len : Header → ℕ
body_len h = h.array_len * 8 + (h.n_infos_len * 2 + (h.blocks_len * 20 + h.reject_len * 2))

-- how many bytes the four lists have that they are read into
abbrev pub tables_len : Header → ℕ
tables_len h = h.capacity * 8 + (h.capacity * 2 + (h.capacity / 256 * 20 + h.reject_len * 2))

-- the sizes of a header that passes, as numbers
pub record HasSizes (slots : ℕ) (h : Header) : Type 0 where
  pub array_len : h.array_len ≡ listed_in h
  pub n_infos_len : h.n_infos_len ≡ listed_in h
  pub blocks_len : h.blocks_len ≡ listed_in h / 256
  pub blocks : 256 * (h.capacity / 256) ≡ h.capacity
  pub doubled : IsPowerOfTwo (h.capacity / 256)
  pub reject_len : h.reject_len ≡ 257
  pub capacity : h.capacity ≤ slots
  pub some : 256 ≤ h.size
  pub in_blocks : 256 * (h.size / 256) ≡ h.size
  pub size : h.size ≤ h.capacity

-- the header's sizes pass, there are as many records as its capacity asks for, the numbers that are listed lie in the
-- ranges of their types, and what isn't listed is blank
pub record IsFile (slots limit : ℕ) (h : Header) (nodes : List NodeRecord) (infos : List NInfoRecord) (blocks : List BlockRecord) (reject : List ℤ) : Type 0 where
  pub sizes : size_refusal slots limit h ≡ None
  pub nodes_len : length nodes ≡ h.capacity
  pub infos_len : length infos ≡ h.capacity
  pub blocks_len : length blocks ≡ h.capacity / 256
  pub reject_len : length reject ≡ h.reject_len
  pub numbers : FitsBody (take (listed_in h) nodes) (take (listed_in h) infos) (take (listed_in h / 256) blocks) reject
  pub nodes_filled : nodes ≡ filled_list blank_node h.capacity (take (listed_in h) nodes)
  pub infos_filled : infos ≡ filled_list blank_info h.capacity (take (listed_in h) infos)
  pub blocks_filled : blocks ≡ filled_list blank_block (h.capacity / 256) (take (listed_in h / 256) blocks)

-- the bytes begin with this header, and it passes all tests of its own
pub record Passes (layout slots limit : ℕ) (bytes : Option (List ℕ)) (h : Header) : Type 0 where
  pub front : List ℕ
  pub is : IsHeader layout front h
  pub sizes : size_refusal slots limit h ≡ None
  pub first : BeginsWithFront bytes front

-- nothing is counted before the header has passed, and then at most what it allows
abbrev pub CountsWithin : ℕ → ℕ → ℕ → Option (List ℕ) → (Header → ℕ) → ℕ → ℕ → Type 0
CountsWithin layout slots limit bytes most before after =
    (after ≡ before) ⊎ ((h : Header) × Passes layout slots limit bytes h × (after ≤ before + most h))

-- how many bytes a file has
abbrev pub file_len : Header → ℕ
file_len h = 88 + body_len h

-- the refusal of a body of which not all bytes are there (`Truncated`), or behind which there are further ones
abbrev pub body_refusal : Header → List ℕ → Option Refusal
body_refusal h bytes = first_refusal (
    unless (nat_le (file_len h) (length bytes)) Truncated
    ∷ unless (length bytes == file_len h) TrailingData
    ∷ [])

-- the refusal of a `max_trial` that isn't above 0
abbrev pub trial_refusal : Header → Option Refusal
trial_refusal h = unless (int_lt (pos 0) h.max_trial) (InvalidHeader (codes "max_trial") (cast_unsigned w32 h.max_trial))

-- the first refusal of the header, its sizes and the body, in this order
abbrev pub decode_refusal : ℕ → ℕ → ℕ → List ℕ → Option Refusal
decode_refusal layout slots limit bytes =
    let front = take 88 bytes in
    let h = header_at front in
    first_refusal (header_refusal layout front ∷ size_refusal slots limit h ∷ body_refusal h bytes ∷ [])

-- a decoding returns the first refusal of `decode_refusal`, the fields of the file, or that a list found no room
-- after the header had passed (`LacksTable`)
abbrev pub DecodeAnswers : {X : Type 0} → ℕ → ℕ → ℕ → List ℕ → Result X CedarPersistenceError → Type 0
DecodeAnswers layout slots limit bytes answer =
    let front = take 88 bytes in
    let h = header_at front in
    (refusal answer ≡ decode_refusal layout slots limit bytes)
    ⊎ (IsErrAnd answer (LacksTable h) × (header_refusal layout front ≡ None) × (size_refusal slots limit h ≡ None))

-- the first refusal of all steps but those on memory and on the table: header, sizes, body and `max_trial`, in this
-- order
abbrev pub header_answer : ℕ → ℕ → ℕ → List ℕ → Option Refusal
header_answer layout slots limit bytes = first_refusal (decode_refusal layout slots limit bytes ∷ trial_refusal (header_at (take 88 bytes)) ∷ [])
