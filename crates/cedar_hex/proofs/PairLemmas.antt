-- One pair of digits more.
use Rattle.std.proofs.Common.{◌≡◌, ◌≤◌, ◌<◌, ℕ, ◌+◌, ◌*◌, ◌%◌, bit_or, true, ◌⊎◌, inl, inr, List, length, take, drop, slice_index, slice_set, Option, Some, None, Ok, Err, is_err, refl, ap, sym, arith}
use Rattle.std.specs.Prelude.{MatchOption}
use Rattle.std.proofs.lemmas.Bool.{cases_lt}
use Rattle.std.proofs.lemmas.Nat.{le_or_l, le_or_r, or_lt}
use Rattle.hex.specs.Hex.{decode_pairs, hex_digit_value, pair_value}
use Rattle.hex.specs.declared.error.FromHexError.{FromHexError}
use Rattle.hex.specs.declared.error.FromHexError.TheVariants.{InvalidHexCharacter}
use Rattle.hex.proofs.Pairs.{decode_err, decode_step, prepend}

-- a number is the value of a digit, or 16 or more where there is none
abbrev pub Tells : ℕ → ℕ → Type 0
Tells digit n = MatchOption (hex_digit_value digit) (16 ≤ n) (λ value. n ≡ value)

-- what was decoded so far, as long as each byte was a digit; else the text is refused
abbrev pub Decodes : List ℕ → List ℕ → ℕ → ℕ → Type 0
Decodes text bytes i seen =
    (seen < 16 → decode_pairs 0 text ≡ prepend (take i bytes) (decode_pairs (2 * i) (drop (2 * i) text)))
    × (16 ≤ seen → is_err (decode_pairs 0 text) ≡ true)

value_small : (c v : ℕ) → hex_digit_value c ≡ Some v → v < 16
value_small c v h = grind (arith)

some_of : (o : Option ℕ) (n : ℕ) → MatchOption o (16 ≤ n) (λ value. n ≡ value) → n < 16 → o ≡ Some n
some_of None n h lt = absurd (omega arith)
some_of (Some v) n h lt = ap Some (sym h)

none_of : (c : ℕ) (o : Option ℕ) (n : ℕ) → hex_digit_value c ≡ o → MatchOption o (16 ≤ n) (λ value. n ≡ value) → 16 ≤ n → o ≡ None
none_of c None n e h le = refl
none_of c (Some v) n e h le = let small = value_small c v e in absurd (omega (arith, small, h))

-- two digits
pair_read : (a b i high low : ℕ) → Tells a high → Tells b low → high < 16 → low < 16 → pair_value a b i ≡ Ok (high * 16 + low)
pair_read a b i high low ta tb ha hb =
    let ea = some_of (hex_digit_value a) high ta ha in
    let eb = some_of (hex_digit_value b) low tb hb in
    rw (ea, eb) refl

-- two bytes, one of which is none
refused_second : (a b i : ℕ) (o : Option ℕ) → hex_digit_value a ≡ o → hex_digit_value b ≡ None → (e : FromHexError) × (pair_value a b i ≡ Err e)
refused_second a b i None ea eb = (InvalidHexCharacter a i, rw ea refl)
refused_second a b i (Some v) ea eb = (InvalidHexCharacter b (i + 1), rw (ea, eb) refl)

pair_refused : (a b i high low : ℕ) → Tells a high → Tells b low → (16 ≤ high) ⊎ (16 ≤ low) → (e : FromHexError) × (pair_value a b i ≡ Err e)
pair_refused a b i high low ta tb (inl ha) =
    let ea = none_of a (hex_digit_value a) high refl ta ha in (InvalidHexCharacter a i, rw ea refl)
pair_refused a b i high low ta tb (inr hb) =
    refused_second a b i (hex_digit_value a) refl (none_of b (hex_digit_value b) low refl tb hb)

one_is_large : (seen high low : ℕ) → seen < 16 → 16 ≤ bit_or seen (bit_or high low) → (16 ≤ high) ⊎ (16 ≤ low)
one_is_large seen high low lt large =
    elim (cases_lt high 16) [
      | inr h ↦ inl h
      | inl h ↦
          elim (cases_lt low 16) [
            | inr l ↦ inr l
            | inl l ↦ let both = or_lt 4 seen (bit_or high low) lt (or_lt 4 high low h l) in absurd (omega (arith, both, large))
          ]
    ]

refused : (text : List ℕ) (e : FromHexError) → decode_pairs 0 text ≡ Err e → is_err (decode_pairs 0 text) ≡ true
refused text e h = rw h refl

-- one pair more
pub decodes_more : (text bytes : List ℕ) (i seen high low : ℕ) → 2 * i + 1 < length text → i < length bytes
    → Tells (slice_index text (2 * i)) high → Tells (slice_index text (2 * i + 1)) low → Decodes text bytes i seen
    → Decodes text (slice_set bytes i (((high * 16) % 256 + low) % 256)) (i + 1) (bit_or seen (bit_or high low))
decodes_more text bytes i seen high low fits room ta tb inv = (whole, other) where
  parts : bit_or seen (bit_or high low) < 16 → (seen < 16) × (high < 16) × (low < 16)
  parts lt = (
    omega (arith, le_or_l seen (bit_or high low)),
    omega (arith, le_or_r seen (bit_or high low), le_or_l high low),
    omega (arith, le_or_r seen (bit_or high low), le_or_r high low),
  )

  whole : bit_or seen (bit_or high low) < 16
      → decode_pairs 0 text ≡ prepend (take (i + 1) (slice_set bytes i (((high * 16) % 256 + low) % 256))) (decode_pairs (2 * (i + 1)) (drop (2 * (i + 1)) text))
  whole lt =
      let p = parts lt in
      let byte : ((high * 16) % 256 + low) % 256 ≡ high * 16 + low = omega (arith, p.1, p.2) in
      rw byte (decode_step text bytes i (high * 16 + low) fits room (pair_read (slice_index text (2 * i)) (slice_index text (2 * i + 1)) (2 * i) high low ta tb p.1 p.2) (inv.0 p.0))

  other : 16 ≤ bit_or seen (bit_or high low) → is_err (decode_pairs 0 text) ≡ true
  other large =
      elim (cases_lt seen 16) [
        | inr le ↦ inv.1 le
        | inl lt ↦
            let bad = pair_refused (slice_index text (2 * i)) (slice_index text (2 * i + 1)) (2 * i) high low ta tb (one_is_large seen high low lt large) in
            refused text bad.0 (decode_err text bytes i bad.0 fits bad.1 (inv.0 lt))
      ]
