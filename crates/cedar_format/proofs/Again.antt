-- What was written is read again.
use Rattle.std.proofs.Common.{◌≡◌, ℕ, ℤ, ◌<◌, ◌^◌, Bool, true, false, List, ◌++◌, drop, arith, rules, refl, ap, ◌∙◌}
use Rattle.std.specs.Prelude.{◌==◌, if◌then◌else◌, slice_index}
use Rattle.std.specs.Int.{w16, w32, cast_unsigned, cast_signed, from_le_bytes}
use Rattle.std.proofs.lemmas.Int.{to_z-of_z}
use Rattle.std.proofs.lemmas.Nat.{from_le_bytes-to_le_bytes_2, from_le_bytes-to_le_bytes_4, from_le_bytes-to_le_bytes_8}
use Rattle.cedar_format.specs.declared.header.Header.{Header}
use Rattle.cedar_slots.specs.declared.records.NodeRecord.{NodeRecord}
use Rattle.cedar_slots.specs.declared.records.BlockRecord.{BlockRecord}
use Rattle.cedar_format.specs.Records.{node_bytes, block_bytes, FitsBlock, FitsNode}
use Rattle.cedar_format.specs.Numbers.{i16_bytes, i32_bytes, u16_bytes, u64_bytes, IsI16, IsI32}
use Rattle.cedar_format.specs.Format.{flags_of, header_at, header_bytes, i32_at, u16_at, u64_at, FitsHeader}

signed_16 : (z : ℤ) → IsI16 z → cast_signed w16 (from_le_bytes w16 (i16_bytes z)) ≡ z
unfolding i16_bytes
signed_16 z fits =
    let below : cast_unsigned w16 z < 2 ^ 16 = search rules in
    ap (cast_signed w16) (from_le_bytes-to_le_bytes_2 (cast_unsigned w16 z) below) ∙ to_z-of_z w16 z fits

signed_32 : (z : ℤ) → IsI32 z → cast_signed w32 (from_le_bytes w32 (i32_bytes z)) ≡ z
unfolding i32_bytes
signed_32 z fits =
    let below : cast_unsigned w32 z < 2 ^ 32 = search rules in
    ap (cast_signed w32) (from_le_bytes-to_le_bytes_4 (cast_unsigned w32 z) below) ∙ to_z-of_z w32 z fits

flag_of : (b : Bool) → ((if b then 1 else 0) == 1) ≡ b
flag_of true = refl
flag_of false = refl

pub flag_below : (b : Bool) → (if b then 1 else 0) < 2
flag_below true = omega arith
flag_below false = omega arith

flag_fits : (b : Bool) → (if b then 1 else 0) < 2 ^ 16
flag_fits true = omega arith
flag_fits false = omega arith

all_same : (m n : ℕ) (a0 b0 : Bool) (a1 b1 : ℤ) (a2 b2 : ℤ) (a3 b3 : ℤ) (a4 b4 : ℤ) (a5 b5 : ℕ) (a6 b6 : ℕ) (a7 b7 : ℕ) (a8 b8 : ℕ) (a9 b9 : ℕ) (a10 b10 : ℕ) (a11 b11 : ℕ) → m ≡ n → a0 ≡ b0 → a1 ≡ b1 → a2 ≡ b2 → a3 ≡ b3 → a4 ≡ b4 → a5 ≡ b5 → a6 ≡ b6 → a7 ≡ b7 → a8 ≡ b8 → a9 ≡ b9 → a10 ≡ b10 → a11 ≡ b11
    → ◌≡◌ {A = Header} (record { minor = m; ordered = a0; max_trial = a1; full_head = a2; closed_head = a3; open_head = a4; array_len = a5; n_infos_len = a6; blocks_len = a7; reject_len = a8; capacity = a9; size = a10; entries = a11 }) (record { minor = n; ordered = b0; max_trial = b1; full_head = b2; closed_head = b3; open_head = b4; array_len = b5; n_infos_len = b6; blocks_len = b7; reject_len = b8; capacity = b9; size = b10; entries = b11 })
all_same m n a0 b0 a1 b1 a2 b2 a3 b3 a4 b4 a5 b5 a6 b6 a7 b7 a8 b8 a9 b9 a10 b10 a11 b11 p p0 p1 p2 p3 p4 p5 p6 p7 p8 p9 p10 p11 = cc

pub same_header : (a b : Header) → a.minor ≡ b.minor → a.ordered ≡ b.ordered → a.max_trial ≡ b.max_trial → a.full_head ≡ b.full_head → a.closed_head ≡ b.closed_head → a.open_head ≡ b.open_head → a.array_len ≡ b.array_len → a.n_infos_len ≡ b.n_infos_len → a.blocks_len ≡ b.blocks_len → a.reject_len ≡ b.reject_len → a.capacity ≡ b.capacity → a.size ≡ b.size → a.entries ≡ b.entries → a ≡ b
same_header a b p p0 p1 p2 p3 p4 p5 p6 p7 p8 p9 p10 p11 = all_same a.minor b.minor a.ordered b.ordered a.max_trial b.max_trial a.full_head b.full_head a.closed_head b.closed_head a.open_head b.open_head a.array_len b.array_len a.n_infos_len b.n_infos_len a.blocks_len b.blocks_len a.reject_len b.reject_len a.capacity b.capacity a.size b.size a.entries b.entries p p0 p1 p2 p3 p4 p5 p6 p7 p8 p9 p10 p11

module _ (layout : ℕ) (h : Header) (rest : List ℕ) where
  pub layout_again : slice_index (header_bytes layout h ++ rest) 13 ≡ layout
  unfolding u16_bytes
  layout_again = refl

  pub flags_again : u16_at 14 (header_bytes layout h ++ rest) ≡ flags_of h
  unfolding u16_at u16_bytes
  flags_again = from_le_bytes-to_le_bytes_2 (flags_of h) (flag_fits h.ordered)

  pub minor_again : h.minor < 2 ^ 16 → u16_at 10 (header_bytes layout h ++ rest) ≡ h.minor
  unfolding u16_at u16_bytes
  minor_again fits = from_le_bytes-to_le_bytes_2 h.minor fits

  ordered_again : (u16_at 14 (header_bytes layout h ++ rest) == 1) ≡ h.ordered
  unfolding u16_at u16_bytes
  ordered_again = ap (λ n. n == 1) (from_le_bytes-to_le_bytes_2 (flags_of h) (flag_fits h.ordered)) ∙ flag_of h.ordered

  max_trial_again : IsI32 h.max_trial → i32_at 16 (header_bytes layout h ++ rest) ≡ h.max_trial
  unfolding i32_at i32_bytes u16_bytes u64_bytes
  max_trial_again fits = signed_32 h.max_trial fits

  full_head_again : IsI32 h.full_head → i32_at 20 (header_bytes layout h ++ rest) ≡ h.full_head
  unfolding i32_at i32_bytes u16_bytes u64_bytes
  full_head_again fits = signed_32 h.full_head fits

  closed_head_again : IsI32 h.closed_head → i32_at 24 (header_bytes layout h ++ rest) ≡ h.closed_head
  unfolding i32_at i32_bytes u16_bytes u64_bytes
  closed_head_again fits = signed_32 h.closed_head fits

  open_head_again : IsI32 h.open_head → i32_at 28 (header_bytes layout h ++ rest) ≡ h.open_head
  unfolding i32_at i32_bytes u16_bytes u64_bytes
  open_head_again fits = signed_32 h.open_head fits

  array_len_again : h.array_len < 2 ^ 64 → u64_at 32 (header_bytes layout h ++ rest) ≡ h.array_len
  unfolding u64_at i32_bytes u16_bytes u64_bytes
  array_len_again fits = from_le_bytes-to_le_bytes_8 h.array_len fits

  n_infos_len_again : h.n_infos_len < 2 ^ 64 → u64_at 40 (header_bytes layout h ++ rest) ≡ h.n_infos_len
  unfolding u64_at i32_bytes u16_bytes u64_bytes
  n_infos_len_again fits = from_le_bytes-to_le_bytes_8 h.n_infos_len fits

  blocks_len_again : h.blocks_len < 2 ^ 64 → u64_at 48 (header_bytes layout h ++ rest) ≡ h.blocks_len
  unfolding u64_at i32_bytes u16_bytes u64_bytes
  blocks_len_again fits = from_le_bytes-to_le_bytes_8 h.blocks_len fits

  reject_len_again : h.reject_len < 2 ^ 64 → u64_at 56 (header_bytes layout h ++ rest) ≡ h.reject_len
  unfolding u64_at i32_bytes u16_bytes u64_bytes
  reject_len_again fits = from_le_bytes-to_le_bytes_8 h.reject_len fits

  capacity_again : h.capacity < 2 ^ 64 → u64_at 64 (header_bytes layout h ++ rest) ≡ h.capacity
  unfolding u64_at i32_bytes u16_bytes u64_bytes
  capacity_again fits = from_le_bytes-to_le_bytes_8 h.capacity fits

  size_again : h.size < 2 ^ 64 → u64_at 72 (header_bytes layout h ++ rest) ≡ h.size
  unfolding u64_at i32_bytes u16_bytes u64_bytes
  size_again fits = from_le_bytes-to_le_bytes_8 h.size fits

  entries_again : h.entries < 2 ^ 64 → u64_at 80 (header_bytes layout h ++ rest) ≡ h.entries
  unfolding u64_at i32_bytes u16_bytes u64_bytes
  entries_again fits = from_le_bytes-to_le_bytes_8 h.entries fits

  -- the fields that the bytes of a header give are those of the header
  pub header_again : FitsHeader h → header_at (header_bytes layout h ++ rest) ≡ h
  header_again fits = same_header (header_at (header_bytes layout h ++ rest)) h (minor_again fits.minor) ordered_again (max_trial_again fits.max_trial) (full_head_again fits.full_head) (closed_head_again fits.closed_head) (open_head_again fits.open_head) (array_len_again fits.array_len) (n_infos_len_again fits.n_infos_len) (blocks_len_again fits.blocks_len) (reject_len_again fits.reject_len) (capacity_again fits.capacity) (size_again fits.size) (entries_again fits.entries)

-- ---- records

abbrev word_32 : ℕ → List ℕ → ℤ
word_32 at bytes = cast_signed w32 (from_le_bytes w32 (drop at bytes))

abbrev word_16 : ℕ → List ℕ → ℤ
word_16 at bytes = cast_signed w16 (from_le_bytes w16 (drop at bytes))

abbrev pub number_in : List ℕ → ℤ
number_in bytes = cast_signed w16 (from_le_bytes w16 bytes)

pub number_again : (z : ℤ) → IsI16 z → number_in (i16_bytes z) ≡ z
number_again z fits = signed_16 z fits

abbrev pub node_in : List ℕ → NodeRecord
node_in bytes = record { base = word_32 0 bytes; check = word_32 4 bytes }

made_node : (a b c d : ℤ) → a ≡ b → c ≡ d → ◌≡◌ {A = NodeRecord} (record { base = a; check = c }) (record { base = b; check = d })
made_node a b c d p q = cc

pub node_again : (n : NodeRecord) → FitsNode n → node_in (node_bytes n) ≡ n
unfolding i32_bytes
node_again n fits = made_node (word_32 0 (node_bytes n)) n.base (word_32 4 (node_bytes n)) n.check (signed_32 n.base fits.base) (signed_32 n.check fits.check)

abbrev pub block_in : List ℕ → BlockRecord
block_in bytes = record {
  prev = word_32 0 bytes;
  next = word_32 4 bytes;
  num = word_16 8 bytes;
  reject = word_16 10 bytes;
  trial = word_32 12 bytes;
  e_head = word_32 16 bytes;
}

made_block : (a b c d e f g h i j k l : ℤ) → a ≡ b → c ≡ d → e ≡ f → g ≡ h → i ≡ j → k ≡ l
    → ◌≡◌ {A = BlockRecord} (record { prev = a; next = c; num = e; reject = g; trial = i; e_head = k }) (record { prev = b; next = d; num = f; reject = h; trial = j; e_head = l })
made_block a b c d e f g h i j k l p q r s t u = cc

pub block_again : (b : BlockRecord) → FitsBlock b → block_in (block_bytes b) ≡ b
unfolding i16_bytes i32_bytes
block_again b fits =
    let bytes = block_bytes b in
    made_block (word_32 0 bytes) b.prev (word_32 4 bytes) b.next (word_16 8 bytes) b.num (word_16 10 bytes) b.reject (word_32 12 bytes) b.trial (word_32 16 bytes) b.e_head
    (signed_32 b.prev fits.prev) (signed_32 b.next fits.next) (signed_16 b.num fits.num) (signed_16 b.reject fits.reject) (signed_32 b.trial fits.trial) (signed_32 b.e_head fits.e_head)
