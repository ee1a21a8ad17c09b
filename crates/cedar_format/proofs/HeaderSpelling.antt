-- An accepted header is spelled as its fields are.
use Rattle.std.proofs.Common.{◌≡◌, ℕ, ◌+◌, ◌<◌, ◌≤◌, ◌^◌, true, List, [], ◌∷◌, ◌++◌, length, take, drop, get_or, arith, refl, sym, zero, suc, append_assoc, append-nil, drop-cons, length-append, length-drop, drop-drop, take-append-drop, take_at, get_or-drop, ap, ◌∙◌}
use Rattle.std.specs.Int.{w16, w32, w64, from_le_bytes, to_le_bytes, cast_signed}
use Rattle.std.proofs.lemmas.Int.{of_z-to_z}
use Rattle.std.proofs.lemmas.Nat.{le_bytes_2, le_bytes_4, le_bytes_8}
use Rattle.std.specs.Cmp.Lexicographic.{same_text}
use Rattle.std.specs.Prelude.{◌==◌, if◌then◌else◌, nat_eq, slice_index}
use Rattle.std.specs.List.{starts_with}
use Rattle.cedar_format.specs.declared.header.Header.{Header}
use Rattle.cedar_format.specs.Numbers.{u16_bytes, i32_bytes, u64_bytes, length-u16_bytes, length-i32_bytes, length-u64_bytes}
use Rattle.cedar_format.specs.Format.{u16_at, i32_at, u64_at, flags_of, header_at, header_bytes, magic}

-- each is a byte
abbrev pub AreBytes : List ℕ → Type 0
AreBytes bytes = (i : ℕ) → get_or bytes i 0 < 256

-- so are those of a front
front_bytes : (cells rest : List ℕ) → AreBytes (cells ++ rest) → AreBytes cells
front_bytes [] rest fits i = omega arith
front_bytes (x ∷ cells) rest fits zero = fits 0
front_bytes (x ∷ cells) rest fits (suc i) = front_bytes cells rest (λ j. fits (suc j)) i

drop_bytes : (n : ℕ) (bytes : List ℕ) → AreBytes bytes → AreBytes (drop n bytes)
drop_bytes n bytes fits i = rw get_or-drop (fits (n + i))

u16_cells : (a b : ℕ) (rest : List ℕ) → AreBytes (a ∷ b ∷ rest) → u16_bytes (from_le_bytes w16 (a ∷ b ∷ rest)) ≡ a ∷ b ∷ []
unfolding u16_bytes
u16_cells a b rest fits = le_bytes_2 (a ∷ b ∷ []) _ refl (front_bytes (a ∷ b ∷ []) rest fits) refl

word_4 : (a b c d : ℕ) → AreBytes (a ∷ b ∷ c ∷ d ∷ []) → from_le_bytes w32 (a ∷ b ∷ c ∷ d ∷ []) < 2 ^ 32
word_4 a b c d fits = omega (arith, fits 0, fits 1, fits 2, fits 3)

i32_cells : (a b c d : ℕ) (rest : List ℕ) → AreBytes (a ∷ b ∷ c ∷ d ∷ rest) → i32_bytes (cast_signed w32 (from_le_bytes w32 (a ∷ b ∷ c ∷ d ∷ rest))) ≡ a ∷ b ∷ c ∷ d ∷ []
unfolding i32_bytes
i32_cells a b c d rest fits =
    let cells = a ∷ b ∷ c ∷ d ∷ [] in
    let small = front_bytes cells rest fits in
    ap (to_le_bytes w32) (of_z-to_z w32 (from_le_bytes w32 cells) (word_4 a b c d small)) ∙ le_bytes_4 cells _ refl small refl

u64_cells : (a b c d e f g h : ℕ) (rest : List ℕ) → AreBytes (a ∷ b ∷ c ∷ d ∷ e ∷ f ∷ g ∷ h ∷ rest) → u64_bytes (from_le_bytes w64 (a ∷ b ∷ c ∷ d ∷ e ∷ f ∷ g ∷ h ∷ rest)) ≡ a ∷ b ∷ c ∷ d ∷ e ∷ f ∷ g ∷ h ∷ []
unfolding u64_bytes
u64_cells a b c d e f g h rest fits =
    let cells = a ∷ b ∷ c ∷ d ∷ e ∷ f ∷ g ∷ h ∷ [] in
    le_bytes_8 cells _ refl (front_bytes cells rest fits) refl

-- the number at the front, and the bytes after it
u16_front : (ys : List ℕ) → 2 ≤ length ys → AreBytes ys → ys ≡ u16_bytes (from_le_bytes w16 ys) ++ drop 2 ys
u16_front (a ∷ b ∷ rest) len fits = ap (λ l. l ++ rest) (sym (u16_cells a b rest fits))
u16_front (a ∷ []) len fits = absurd (omega arith)
u16_front [] len fits = absurd (omega arith)

i32_front : (ys : List ℕ) → 4 ≤ length ys → AreBytes ys → ys ≡ i32_bytes (cast_signed w32 (from_le_bytes w32 ys)) ++ drop 4 ys
i32_front (a ∷ b ∷ c ∷ d ∷ rest) len fits = ap (λ l. l ++ rest) (sym (i32_cells a b c d rest fits))
i32_front (a ∷ b ∷ c ∷ []) len fits = absurd (omega arith)
i32_front (a ∷ b ∷ []) len fits = absurd (omega arith)
i32_front (a ∷ []) len fits = absurd (omega arith)
i32_front [] len fits = absurd (omega arith)

u64_front : (ys : List ℕ) → 8 ≤ length ys → AreBytes ys → ys ≡ u64_bytes (from_le_bytes w64 ys) ++ drop 8 ys
u64_front (a ∷ b ∷ c ∷ d ∷ e ∷ f ∷ g ∷ h ∷ rest) len fits = ap (λ l. l ++ rest) (sym (u64_cells a b c d e f g h rest fits))
u64_front (a ∷ b ∷ c ∷ d ∷ e ∷ f ∷ g ∷ []) len fits = absurd (omega arith)
u64_front (a ∷ b ∷ c ∷ d ∷ e ∷ f ∷ []) len fits = absurd (omega arith)
u64_front (a ∷ b ∷ c ∷ d ∷ e ∷ []) len fits = absurd (omega arith)
u64_front (a ∷ b ∷ c ∷ d ∷ []) len fits = absurd (omega arith)
u64_front (a ∷ b ∷ c ∷ []) len fits = absurd (omega arith)
u64_front (a ∷ b ∷ []) len fits = absurd (omega arith)
u64_front (a ∷ []) len fits = absurd (omega arith)
u64_front [] len fits = absurd (omega arith)

-- the two flags that pass
flags_are : (n : ℕ) → n < 2 → n ≡ (if n == 1 then 1 else 0)
flags_are zero below = refl
flags_are (suc zero) below = refl
flags_are (suc (suc n)) below = absurd (omega arith)

pub length-header_bytes : (layout : ℕ) (h : Header) → length (header_bytes layout h) ≡ 88
length-header_bytes layout h = simp (length-append, length-u16_bytes, length-i32_bytes, length-u64_bytes)

module _ (bytes : List ℕ) (whole : 88 ≤ length bytes) (fits : AreBytes bytes) where
  u16_piece : (k end : ℕ) → k + 2 ≡ end → end ≤ 88 → drop k bytes ≡ u16_bytes (u16_at k bytes) ++ drop end bytes
  unfolding u16_at
  u16_piece k end e within = u16_front (drop k bytes) (omega (arith, length-drop k bytes)) (drop_bytes k bytes fits) ∙ ap (λ l. u16_bytes (from_le_bytes w16 (drop k bytes)) ++ l) (drop-drop 2 k bytes ∙ ap (λ n. drop n bytes) e)

  i32_piece : (k end : ℕ) → k + 4 ≡ end → end ≤ 88 → drop k bytes ≡ i32_bytes (i32_at k bytes) ++ drop end bytes
  unfolding i32_at
  i32_piece k end e within = i32_front (drop k bytes) (omega (arith, length-drop k bytes)) (drop_bytes k bytes fits) ∙ ap (λ l. i32_bytes (cast_signed w32 (from_le_bytes w32 (drop k bytes))) ++ l) (drop-drop 4 k bytes ∙ ap (λ n. drop n bytes) e)

  u64_piece : (k end : ℕ) → k + 8 ≡ end → end ≤ 88 → drop k bytes ≡ u64_bytes (u64_at k bytes) ++ drop end bytes
  unfolding u64_at
  u64_piece k end e within = u64_front (drop k bytes) (omega (arith, length-drop k bytes)) (drop_bytes k bytes fits) ∙ ap (λ l. u64_bytes (from_le_bytes w64 (drop k bytes)) ++ l) (drop-drop 8 k bytes ∙ ap (λ n. drop n bytes) e)

  byte_piece : (k end b : ℕ) → k + 1 ≡ end → end ≤ 88 → slice_index bytes k ≡ b → drop k bytes ≡ b ∷ drop end bytes
  byte_piece k end b e within is =
      let next : suc k ≡ end = omega arith in
      drop-cons bytes k 0 (omega arith) ∙ ap (λ x. x ∷ drop (suc k) bytes) is ∙ ap (λ n. b ∷ drop n bytes) next

  -- the 88 bytes are the fields of the header, one after another
  pub header_spelled : (layout : ℕ) → true ≡ starts_with nat_eq bytes magic → u16_at 8 bytes ≡ 1 → slice_index bytes 12 ≡ 1 → slice_index bytes 13 ≡ layout → u16_at 14 bytes < 2
      → take 88 bytes ≡ header_bytes layout (header_at bytes)
  header_spelled layout begins major order found flags =
      let h = header_at bytes in
      let marked : bytes ≡ magic ++ drop 8 bytes = sym (take-append-drop 8 bytes) ∙ ap (λ l. l ++ drop 8 bytes) (sym (same_text magic (take 8 bytes) begins)) in
      let version : drop 8 bytes ≡ u16_bytes 1 ++ drop 10 bytes = u16_piece 8 10 refl (omega arith) ∙ ap (λ n. u16_bytes n ++ drop 10 bytes) major in
      let part : drop 10 bytes ≡ u16_bytes h.minor ++ drop 12 bytes = u16_piece 10 12 refl (omega arith) in
      let flag : u16_at 14 bytes ≡ flags_of h = flags_are (u16_at 14 bytes) flags in
      let settings : drop 14 bytes ≡ u16_bytes (flags_of h) ++ drop 16 bytes = u16_piece 14 16 refl (omega arith) ∙ ap (λ n. u16_bytes n ++ drop 16 bytes) flag in
      let all : bytes ≡ header_bytes layout h ++ drop 88 bytes =
      marked
      ∙ ap (λ l. magic ++ l) (version
      ∙ ap (λ l. u16_bytes 1 ++ l) (part
      ∙ ap (λ l. u16_bytes h.minor ++ l) (byte_piece 12 13 1 refl (omega arith) order
      ∙ ap (λ l. 1 ∷ l) (byte_piece 13 14 layout refl (omega arith) found
      ∙ ap (λ l. layout ∷ l) (settings
      ∙ ap (λ l. u16_bytes (flags_of h) ++ l) (i32_piece 16 20 refl (omega arith)
      ∙ ap (λ l. i32_bytes h.max_trial ++ l) (i32_piece 20 24 refl (omega arith)
      ∙ ap (λ l. i32_bytes h.full_head ++ l) (i32_piece 24 28 refl (omega arith)
      ∙ ap (λ l. i32_bytes h.closed_head ++ l) (i32_piece 28 32 refl (omega arith)
      ∙ ap (λ l. i32_bytes h.open_head ++ l) (u64_piece 32 40 refl (omega arith)
      ∙ ap (λ l. u64_bytes h.array_len ++ l) (u64_piece 40 48 refl (omega arith)
      ∙ ap (λ l. u64_bytes h.n_infos_len ++ l) (u64_piece 48 56 refl (omega arith)
      ∙ ap (λ l. u64_bytes h.blocks_len ++ l) (u64_piece 56 64 refl (omega arith)
      ∙ ap (λ l. u64_bytes h.reject_len ++ l) (u64_piece 64 72 refl (omega arith)
      ∙ ap (λ l. u64_bytes h.capacity ++ l) (u64_piece 72 80 refl (omega arith)
      ∙ ap (λ l. u64_bytes h.size ++ l) (u64_piece 80 88 refl (omega arith)))))))))))))))))
      ∙ sym (simp (append_assoc, append-nil)) in
      ap (take 88) all ∙ take_at (header_bytes layout h) (drop 88 bytes) 88 (length-header_bytes layout h)
