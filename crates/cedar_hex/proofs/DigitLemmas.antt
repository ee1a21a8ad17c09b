-- What the code computes of a byte, compared with the digits for each of the 256.
use Rattle.std.proofs.Common.{◌≡◌, ◌≤◌, ◌<◌, ℕ, zero, suc, ◌+◌, ◌-◌, ◌*◌, ◌/◌, ◌%◌, ◌==◌, min, bit_and, slice_index, Bool, true, ◌&&◌, inl, inr, Option, Some, None, refl, arith}
use Rattle.std.specs.Prelude.{MatchOption, nat_le}
use Rattle.std.proofs.lemmas.Bool.{and_parts, cases_lt, eqb-true, leb-true}
use Rattle.hex.specs.Hex.{hex_digit_value, lower_digits}

-- whether each number below n passes a test
abbrev pub all_pass : (ℕ → Bool) → ℕ → Bool
all_pass test zero = true
all_pass test (suc n) = test n && all_pass test n

all_pass-at : (test : ℕ → Bool) (n k : ℕ) → all_pass test n ≡ true → k < n → test k ≡ true
all_pass-at test zero k h lt = absurd (omega arith)
all_pass-at test (suc n) k h lt =
    let parts = and_parts (test n) (all_pass test n) h in
    elim (cases_lt k n) [
      | inl below ↦ all_pass-at test n k parts.1 below
      | inr top ↦
          let e : k ≡ n = omega arith in
          rw e parts.0
    ]

-- ---- a digit's value

-- the number that the code makes of a byte
abbrev pub number_of : ℕ → ℕ
number_of b = min (((b + 198) % 256 - 6 + 16) % 256) (min ((bit_and b 223 + 191) % 256 + 10) 255)

-- whether a number is a digit's value, or 16 or more where there is none
abbrev pub tells : Option ℕ → ℕ → Bool
tells None n = nat_le 16 n
tells (Some value) n = n == value

abbrev pub number_tells : ℕ → Bool
number_tells b = tells (hex_digit_value b) (number_of b)

told : (o : Option ℕ) (n : ℕ) → tells o n ≡ true → MatchOption o (16 ≤ n) (λ value. n ≡ value)
told None n h = leb-true 16 n h
told (Some value) n h = eqb-true n value h

numbers_tell : all_pass number_tells 256 ≡ true
numbers_tell = refl

pub number_of-tells : (b : ℕ) → b < 256 → MatchOption (hex_digit_value b) (16 ≤ number_of b) (λ value. number_of b ≡ value)
number_of-tells b lt = told (hex_digit_value b) (number_of b) (all_pass-at number_tells 256 b numbers_tell lt)

-- ---- the two digits of a byte

-- the word that the code makes of a byte
abbrev pub word_of : ℕ → ℕ
word_of b = b / 16 + b % 16 * 256 + 12336 + bit_and ((b / 16 + b % 16 * 256 + 1542) / 16) 257 * 39

-- the word that has its digits
abbrev pub digits_word : ℕ → ℕ
digits_word b = slice_index lower_digits (b / 16) + 256 * slice_index lower_digits (b % 16)

abbrev pub word_fits : ℕ → Bool
word_fits b = word_of b == digits_word b

words_fit : all_pass word_fits 256 ≡ true
words_fit = refl

pub word_of-digits : (b : ℕ) → b < 256 → word_of b ≡ digits_word b
word_of-digits b lt = eqb-true (word_of b) (digits_word b) (all_pass-at word_fits 256 b words_fit lt)

-- a digit is a byte
abbrev pub digit_fits : ℕ → Bool
digit_fits v = nat_le (slice_index lower_digits v) 255

digits_fit : all_pass digit_fits 16 ≡ true
digits_fit = refl

pub digit_small : (v : ℕ) → v < 16 → slice_index lower_digits v < 256
digit_small v lt =
    let small = leb-true (slice_index lower_digits v) 255 (all_pass-at digit_fits 16 v digits_fit lt) in
    omega (arith, small)
