-- Numbers in figures, calls that read them, and where a byte is first.
use Rattle.std.proofs.Common.{◌≡◌, ℕ, ℤ, pos, negsuc, w32, List, [], ◌∷◌, Option, Some, None, Bool, true, false, cond, ◌&&◌, Bor, refl, sym, ap, ◌∙◌, arith, drop, length, ◌<◌, ◌≤◌}
use Rattle.std.proofs.lemmas.Bool.{eqb-true, false≢true, leb-true, le-leb, and_parts}
use Rattle.std.proofs.lemmas.Grind.{common_steps}
use Rattle.std.proofs.lemmas.Fmt.{IsAscii-from_digits}
use Rattle.std.proofs.lemmas.List.Quantifiers.{position-Some}
use Rattle.std.proofs.lemmas.List.Sums.{position_or_len_is}
use Rattle.std.proofs.lemmas.Str.{digit_value_digit, IsUtf8-from_ascii}
use Rattle.std.proofs.lemmas.Str.Parse.{digit_from_value}
use Rattle.std.specs.Int.{IsInRange}
use Rattle.std.specs.Int.RustNames.{FitsSigned}
use Rattle.std.specs.Prelude.{Result, Ok, Err, IfSome, MatchResult, ◌==◌}
use Rattle.std.specs.List.{position, position_or_len, list_all}
use Rattle.std.specs.Result.{result_ok}
use Rattle.std.specs.Char.{digit_value}
use Rattle.std.specs.Str.{IsAscii, IsUtf8}
use Rattle.std.specs.Str.Parse.{AllDigits, IsNumeral, ParsesSigned, without_leading_sign, signed_digits_value}
use Rattle.memchr.specs.Find.{IsFirstByte, is_byte}
use Rattle.device_lines.specs.Lines.{figures_number, fits_number, is_digit, is_filled}
use Rattle.std.proofs.lemmas.Str.Ascii.{IsAscii-cons}

-- where an element passes first
pub at_first : (p : ℕ → Bool) (xs : List ℕ) (i : ℕ) → position p xs ≡ Some i → position_or_len p xs ≡ i
at_first p xs i e = grind (arith, common_steps)

-- a byte is a decimal digit
pub digit_test : (c : ℕ) → digit_value c < 10 → is_digit c ≡ true
digit_test c h = let r = digit_from_value c h in grind (arith, common_steps)

pub digit_tested : (c : ℕ) → is_digit c ≡ true → digit_value c < 10
digit_tested c h = let r : IsInRange 48 57 c = grind (arith, common_steps) in omega (arith, digit_value_digit c r)

pub digits_test : (ds : List ℕ) → AllDigits 10 ds → list_all is_digit ds ≡ true
digits_test [] h = refl
digits_test (c ∷ ds) h = rw (digit_test c h.0) (digits_test ds h.1)

pub filled_test : (ds : List ℕ) → 0 < length ds → is_filled ds ≡ true
filled_test [] h = absurd (omega arith)
filled_test (c ∷ ds) h = refl

pub filled_tested : (ds : List ℕ) → is_filled ds ≡ true → 0 < length ds
filled_tested [] h = absurd (false≢true h)
filled_tested (c ∷ ds) h = omega arith

pub tested_digits : (ds : List ℕ) → list_all is_digit ds ≡ true → AllDigits 10 ds
tested_digits [] h = tt
tested_digits (c ∷ ds) h = let p = and_parts (is_digit c) (list_all is_digit ds) h in (digit_tested c p.0, tested_digits ds p.1)

-- digits are ASCII, and so is a sign before them
pub signed_ascii : (text : List ℕ) → AllDigits 10 (without_leading_sign text) → IsAscii text
signed_ascii [] h = IsAscii-from_digits [] h
signed_ascii (b ∷ bs) h =
    (elim (b == 45) as (λ minus. (b == 45) ≡ minus → AllDigits 10 (cond minus bs (drop (cond (b == 43) 1 0) (b ∷ bs))) → IsAscii (b ∷ bs)) [
      | true ↦ λ e k. IsAscii-cons b bs (let same : b ≡ 45 = eqb-true b 45 e in omega arith) (IsAscii-from_digits bs k)
      | false ↦ λ _ k.
          (elim (b == 43) as (λ plus. (b == 43) ≡ plus → AllDigits 10 (drop (cond plus 1 0) (b ∷ bs)) → IsAscii (b ∷ bs)) [
            | true ↦ λ e m. IsAscii-cons b bs (let same : b ≡ 43 = eqb-true b 43 e in omega arith) (IsAscii-from_digits bs m)
            | false ↦ λ _ m. IsAscii-from_digits (b ∷ bs) m
          ]) refl k
    ]) refl h

-- a call that returned no value failed
pub failed : {T E : Type 0} (P : T → Type 0) (N : Type 0) (Q : E → Type 0) (r : Result T E) → MatchResult r P (λ e. N × Q e) → None ≡ result_ok r → N
failed P N Q (Ok x) m e = absurd (cc)
failed P N Q (Err x) m e = m.0

-- the text of bytes is these bytes
pub text_of : {E : Type 0} (bytes : List ℕ) (U : Type 0) (Q : E → Type 0) (r : Result (Bor (List ℕ)) E) (text : Bor (List ℕ))
    → MatchResult r (λ s. (s.now ≡ bytes) × U) Q → Some text ≡ result_ok r → text.now ≡ bytes
text_of bytes U Q (Ok x) text m e = let same : text ≡ x = cc in ap (λ s. s.now) same ∙ m.0
text_of bytes U Q (Err x) text m e = absurd (cc)

pub not_true : {b : Bool} → (b ≡ true → ⊥) → b ≡ false
not_true {b = true} h = absurd (h refl)
not_true {b = false} h = refl

-- ---- a number of 32 bits

pub fits_test : (v : ℤ) → FitsSigned w32 v → fits_number v ≡ true
fits_test (pos n) h = let b : n < 2147483648 = h.sfits in le-leb n 2147483647 (omega arith)
fits_test (negsuc n) h = let b : n < 2147483648 = h.sfits in rw (le-leb n 2147483647 (omega arith)) refl

pub fits_tested : (v : ℤ) → fits_number v ≡ true → FitsSigned w32 v
fits_tested (pos n) h = let b : n ≤ 2147483647 = leb-true n 2147483647 h in record { sfits = omega arith }
fits_tested (negsuc n) h = let b : n ≤ 2147483647 = grind (arith, common_steps) in record { sfits = omega arith }

-- a text that is no number in range has none
no_value : (text : List ℕ) → (IsNumeral 10 (without_leading_sign text) × FitsSigned w32 (signed_digits_value 10 text) → ⊥) → None ≡ figures_number text
no_value text never =
    let ds = without_leading_sign text in
    let v = signed_digits_value 10 text in
    (elim (is_filled ds && list_all is_digit ds && fits_number v) as (λ b. (is_filled ds && list_all is_digit ds && fits_number v) ≡ b → None ≡ cond b (Some v) None) [
      | true ↦ λ e.
          let p = and_parts (is_filled ds && list_all is_digit ds) (fits_number v) e in
          let q = and_parts (is_filled ds) (list_all is_digit ds) p.0 in
          absurd (never ((filled_tested ds q.0, tested_digits ds q.1), fits_tested v p.1))
      | false ↦ λ e. refl
    ]) refl

-- what `parse` reads is the text's number
pub parsed : {E : Type 0} (text : List ℕ) (r : Result ℤ E) → ParsesSigned w32 10 text r → result_ok r ≡ figures_number text
parsed text (Ok x) h =
    rw (filled_test (without_leading_sign text) h.0.0.0, digits_test (without_leading_sign text) h.0.0.1, fits_test (signed_digits_value 10 text) h.0.1)
    (ap Some h.1)
parsed text (Err e) h = no_value text h

-- bytes that are no text have no number
pub not_text : (text : List ℕ) → (IsUtf8 text → ⊥) → None ≡ figures_number text
not_text text h = no_value text (λ p. h (IsUtf8-from_ascii text (signed_ascii text p.0.1)))

-- the first position of a byte, as a search returns it
pub first_byte : (b : ℕ) (text : List ℕ) (found : Option ℕ) → IsFirstByte (is_byte b) text found → found ≡ position (is_byte b) text
first_byte b text None none = sym (rw at_end (grind (arith, common_steps))) where
  at_end : position_or_len (is_byte b) text ≡ length text
  at_end = position_or_len_is (is_byte b) text (length text) 0 (omega arith) (λ k low. not_true (none k (omega arith) low)) (λ out. absurd (omega arith))
first_byte b text (Some at) first = sym (rw at_first (grind (arith, common_steps))) where
  within : at < length text
  within = first.0.high

  at_first : position_or_len (is_byte b) text ≡ at
  at_first = position_or_len_is (is_byte b) text at 0 (omega arith) (λ k low. not_true (first.0.before k (omega arith) low)) (λ _. first.1)

-- where a byte is found, it is within the text
pub byte_within : (b : ℕ) (text : List ℕ) (found : Option ℕ) → found ≡ position (is_byte b) text → IfSome found (λ at. at < length text)
byte_within b text None e = tt
byte_within b text (Some at) e = (position-Some (is_byte b) text at 0 (sym e)).0
