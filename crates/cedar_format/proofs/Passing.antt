-- The file of a well-formed table passes.
use Rattle.std.proofs.Common.{◌≡◌, ℕ, zero, suc, ◌+◌, ◌*◌, ◌/◌, ◌%◌, ◌^◌, ◌≤◌, ◌<◌, ◌≤ℤ◌, true, List, [], ◌∷◌, ◌++◌, length, take, Option, None, arith, rules, refl, sym, ap, ◌∙◌, append-nil, take_at, length-append, length-take-le}
use Rattle.std.proofs.Math.Nat.{pow-succ'}
use Rattle.std.proofs.lemmas.Bool.{eq-eqb, le-leb}
use Rattle.std.proofs.lemmas.Bool.Decides.{nat_tests}
use Rattle.std.proofs.lemmas.List.FromFn.{length-range_with_len}
use Rattle.std.proofs.lemmas.List.Sums.{count_by-le-length}
use Rattle.std.proofs.lemmas.Nat.{ones_le_self, pow-add}
use Rattle.std.specs.Prelude.{◌==◌, count_ones, int_lt, nat_eq, nat_le, nat_lt, pos, slice_index}
use Rattle.std.specs.Int.{is_power_of_two}
use Rattle.std.specs.List.{flat_map, range_with_len, starts_with}
use lib.Count.{ones_step}
use Rattle.cedar_model.specs.Table.Cells.{is_held}
use Rattle.cedar_model.specs.Table.Layouts.{layout_byte}
use Rattle.cedar_slots.specs.Places.{IsPowerOfTwo, Shaped}
use Rattle.cedar_model.specs.Meaning.Reading.{tree_read}
use Rattle.cedar_model.specs.Table.TableFields.{Fields, size_of}
use Rattle.cedar_model.specs.Meaning.WellFormed.{cells_in, IsWellFormed, tree_of}
use Rattle.cedar_model.proofs.MeaningLemmas.HeldCount.{count_is_named, entries_named}
use Rattle.cedar_format.specs.declared.header.Header.{Header}
use Rattle.cedar_format.specs.Numbers.{i16_bytes, length-i16_bytes, u16_bytes}
use Rattle.cedar_format.specs.Records.{block_bytes, info_bytes, node_bytes}
use Rattle.cedar_format.specs.Refusal.{Refusal, Truncated, TrailingData, first_refusal, unless}
use Rattle.cedar_format.specs.Format.{body_refusal, file_len, flags_of, header_answer, header_at, header_bytes, header_refusal, listed_bytes, listed_in, magic, need, size_refusal, trial_refusal, u16_at, FitsHeader, IsVersion}
use Rattle.cedar_format.specs.Tables.{header_of, slots_listed, table_bytes, FitsTable}
use Rattle.cedar_format.proofs.Again.{flag_below, flags_again, header_again, minor_again}
use Rattle.cedar_format.proofs.HeaderSpelling.{length-header_bytes}
use Rattle.cedar_format.proofs.Lists.{length-flat_map_same}
use Rattle.cedar_format.proofs.OneTable.{block_len, info_len, listed_fits, node_len}

pub read_again : (layout : ℕ) (h : Header) → FitsHeader h → header_at (header_bytes layout h) ≡ h
read_again layout h fits = ap header_at (sym (append-nil (header_bytes layout h))) ∙ header_again layout h [] fits

front_passes : (layout : ℕ) (bytes : List ℕ) → 88 ≤ length bytes → starts_with nat_eq bytes magic ≡ true → u16_at 8 bytes ≡ 1 → u16_at 10 bytes < 2 → slice_index bytes 12 ≡ 1 → slice_index bytes 13 ≡ layout
    → u16_at 14 bytes < 2 → header_refusal layout bytes ≡ None
front_passes layout bytes whole begins major minor order found flags =
    let to_8 : nat_le 8 (length bytes) ≡ true = le-leb 8 (length bytes) (omega arith) in
    let to_12 : nat_le 12 (length bytes) ≡ true = le-leb 12 (length bytes) (omega arith) in
    let to_13 : nat_le 13 (length bytes) ≡ true = le-leb 13 (length bytes) (omega arith) in
    let to_14 : nat_le 14 (length bytes) ≡ true = le-leb 14 (length bytes) (omega arith) in
    let to_16 : nat_le 16 (length bytes) ≡ true = le-leb 16 (length bytes) (omega arith) in
    let to_88 : nat_le 88 (length bytes) ≡ true = le-leb 88 (length bytes) whole in
    let same : (layout == layout) ≡ true = eq-eqb layout layout refl in
    let read : nat_lt (u16_at 10 bytes) 2 ≡ true = grind (arith, nat_tests) in
    let few : nat_lt (u16_at 14 bytes) 2 ≡ true = grind (arith, nat_tests) in
    rw (to_8, begins, to_12, major, read, to_13, order, to_14, found, same, to_16, few, to_88) refl

major_is : (layout : ℕ) (h : Header) → u16_at 8 (header_bytes layout h) ≡ 1
unfolding u16_at u16_bytes
major_is layout h = refl

minor_is : (layout : ℕ) (h : Header) → h.minor < 2 → u16_at 10 (header_bytes layout h) < 2
minor_is layout h known =
    let again = minor_again layout h [] (omega arith) in
    let same : u16_at 10 (header_bytes layout h) ≡ h.minor = ap (u16_at 10) (sym (append-nil (header_bytes layout h))) ∙ again in
    omega arith

order_is : (layout : ℕ) (h : Header) → slice_index (header_bytes layout h) 12 ≡ 1
unfolding u16_bytes
order_is layout h = refl

found_is : (layout : ℕ) (h : Header) → slice_index (header_bytes layout h) 13 ≡ layout
unfolding u16_bytes
found_is layout h = refl

flags_pass : (layout : ℕ) (h : Header) → u16_at 14 (header_bytes layout h) < 2
flags_pass layout h =
    let again = flags_again layout h [] in
    let below : flags_of h < 2 = flag_below h.ordered in
    let same : u16_at 14 (header_bytes layout h) ≡ flags_of h = ap (u16_at 14) (sym (append-nil (header_bytes layout h))) ∙ again in
    omega arith

header_passes : (layout : ℕ) (h : Header) → h.minor < 2 → header_refusal layout (header_bytes layout h) ≡ None
header_passes layout h known =
    let len = length-header_bytes layout h in
    front_passes layout (header_bytes layout h) (omega arith) refl (major_is layout h) (minor_is layout h known) (order_is layout h) (found_is layout h) (flags_pass layout h)

-- ---- sizes

ones_of_power : (k : ℕ) → count_ones (2 ^ k) ≡ 1
ones_of_power zero =
    let step : count_ones 1 ≡ 1 + count_ones 0 = ones_step 1 in
    omega (arith, ones_le_self 0)
ones_of_power (suc k) =
    let twice : 2 ^ suc k ≡ 2 * 2 ^ k = pow-succ' 2 k in
    let half : 2 ^ suc k / 2 ≡ 2 ^ k = omega arith in
    let even : 2 ^ suc k % 2 ≡ 0 = omega arith in
    let step = ones_step (2 ^ suc k) in
    let same : count_ones (2 ^ suc k / 2) ≡ count_ones (2 ^ k) = ap count_ones half in
    omega (arith, ones_of_power k)

power_passes : (n : ℕ) → IsPowerOfTwo n → is_power_of_two (256 * n) ≡ true
power_passes n (k, e) =
    let same : 256 * n ≡ 2 ^ (8 + k) = ap (λ m. 256 * m) e ∙ sym (pow-add 2 8 k) in
    ap (λ m. count_ones m == 1) same ∙ ap (λ m. m == 1) (ones_of_power (8 + k))

entries_fit : (slots : ℕ) (T : Fields) → IsWellFormed slots T → T.entries ≤ size_of T
unfolding tree_read
entries_fit slots T formed =
    let counted = count_is_named slots T formed in
    let fewer = entries_named (cells_in T) 0 (tree_of T).children in
    let most = count_by-le-length (is_held (cells_in T)) (range_with_len 0 (size_of T)) in
    let len = length-range_with_len 0 (size_of T) in
    let entries = formed.entries in
    omega arith

sizes_pass : (version slots limit : ℕ) (T : Fields) → IsWellFormed slots T → need (header_of version T) ≤ limit → size_refusal slots limit (header_of version T) ≡ None
sizes_pass version slots limit T formed within =
    let h = header_of version T in
    let sound = formed.table.sound in
    let sized = sound.shaped.blocks in
    let array : (h.array_len == listed_in h) ≡ true = eq-eqb h.array_len (listed_in h) refl in
    let power : is_power_of_two h.capacity ≡ true = power_passes (length T.places.blocks.records) sound.doubled in
    let least : nat_le 256 h.capacity ≡ true = le-leb 256 h.capacity (omega (arith, sized.some, sized.active_in)) in
    let most : nat_le h.capacity slots ≡ true = le-leb h.capacity slots formed.table.within in
    let whole : (h.size % 256 == 0) ≡ true = eq-eqb (h.size % 256) 0 (omega arith) in
    let some : nat_le 256 h.size ≡ true = le-leb 256 h.size (omega (arith, sized.some)) in
    let inside : nat_le h.size h.capacity ≡ true = le-leb h.size h.capacity (omega (arith, sized.active_in)) in
    let blocks : (h.blocks_len == listed_in h / 256) ≡ true = eq-eqb h.blocks_len (listed_in h / 256) refl in
    let reject : (h.reject_len == 257) ≡ true = eq-eqb h.reject_len 257 sound.rejects.len in
    let entries : nat_le h.entries h.size ≡ true = le-leb h.entries h.size (entries_fit slots T formed) in
    let needed : nat_le (need h) limit ≡ true = le-leb (need h) limit within in
    rw (array, power, least, most, whole, some, inside, blocks, reject, entries, needed) refl

-- how many bytes the file of a table has
pub length-table_bytes : (version : ℕ) (T : Fields) → Shaped T.places → length (table_bytes version T) ≡ file_len (header_of version T)
length-table_bytes version T shaped =
    let h = header_of version T in
    let n = slots_listed version T in
    let within = listed_fits version T shaped in
    let listed_nodes = take n T.places.slots.nodes in
    let listed_infos = take n T.places.slots.infos in
    let listed_blocks = take (n / 256) T.places.blocks.records in
    let nodes = flat_map node_bytes listed_nodes in
    let infos = flat_map info_bytes listed_infos in
    let blocks = flat_map block_bytes listed_blocks in
    let reject = flat_map i16_bytes T.places.reject in
    let whole = length-append (header_bytes (layout_byte T.layout) h) (nodes ++ (infos ++ (blocks ++ reject))) in
    let front = length-header_bytes (layout_byte T.layout) h in
    let first = length-append nodes (infos ++ (blocks ++ reject)) in
    let second = length-append infos (blocks ++ reject) in
    let third = length-append blocks reject in
    let nodes_taken : length listed_nodes ≡ n = length-take-le n T.places.slots.nodes (omega (arith, shaped.nodes)) in
    let infos_taken : length listed_infos ≡ n = length-take-le n T.places.slots.infos (omega (arith, shaped.nodes, shaped.infos)) in
    let blocks_taken : length listed_blocks ≡ n / 256 = length-take-le (n / 256) T.places.blocks.records (omega arith) in
    let nodes_len = length-flat_map_same node_bytes 8 node_len listed_nodes in
    let infos_len = length-flat_map_same info_bytes 2 info_len listed_infos in
    let blocks_len = length-flat_map_same block_bytes 20 block_len listed_blocks in
    let reject_len = length-flat_map_same i16_bytes 2 length-i16_bytes T.places.reject in
    omega arith

body_passes : (n m : ℕ) → m ≡ n → first_refusal (unless (nat_le n m) Truncated ∷ unless (m == n) TrailingData ∷ []) ≡ None
body_passes n m e =
    let long : nat_le n m ≡ true = le-leb n m (omega arith) in
    let just : (m == n) ≡ true = eq-eqb m n e in
    rw (long, just) refl

trials_pass : (h : Header) → pos 1 ≤ℤ h.max_trial → trial_refusal h ≡ None
trials_pass h tried =
    let some : int_lt (pos 0) h.max_trial ≡ true = search (rules, arith) in
    rw some refl

none_of_four : (a b c d : Option Refusal) → a ≡ None → b ≡ None → c ≡ None → d ≡ None → first_refusal (first_refusal (a ∷ b ∷ c ∷ []) ∷ d ∷ []) ≡ None
none_of_four a b c d p q r s = rw (p, q, r, s) refl

pub tables_pass : (version slots limit : ℕ) (T : Fields) → IsVersion version → IsWellFormed slots T → FitsTable version T → need (header_of version T) ≤ limit
    → header_answer (layout_byte T.layout) slots limit (table_bytes version T) ≡ None
tables_pass version slots limit T known formed fits within =
    let h = header_of version T in
    let byte = layout_byte T.layout in
    let bytes = table_bytes version T in
    let body = listed_bytes (slots_listed version T) T.places.slots.nodes T.places.slots.infos T.places.blocks.records T.places.reject in
    let front : take 88 bytes ≡ header_bytes byte h = take_at (header_bytes byte h) body 88 (length-header_bytes byte h) in
    let again : header_at (take 88 bytes) ≡ h = ap header_at front ∙ read_again byte h fits.header in
    none_of_four (header_refusal byte (take 88 bytes)) (size_refusal slots limit (header_at (take 88 bytes))) (body_refusal (header_at (take 88 bytes)) bytes) (trial_refusal (header_at (take 88 bytes)))
    (ap (header_refusal byte) front ∙ header_passes byte h known) (ap (size_refusal slots limit) again ∙ sizes_pass version slots limit T formed within)
    (ap (λ k. body_refusal k bytes) again ∙ body_passes (file_len h) (length bytes) (length-table_bytes version T formed.table.sound.shaped)) (ap trial_refusal again ∙ trials_pass h formed.table.sound.pruned.max_trial)
