-- What the parts of a line's text say.
use Rattle.std.proofs.Common.{◌≡◌, ℕ, List, [], Some, None, Bool, true, false, cond, ◌&&◌, refl, sym, ap, ◌∙◌, arith, take, drop, length, ◌≤◌, ◌<◌, ◌+◌, ◌-◌, ◌^◌}
use Rattle.std.proofs.lemmas.Bool.{leb-true, le-leb, and_parts}
use Rattle.std.proofs.lemmas.Grind.{common_steps}
use Rattle.std.proofs.lemmas.List.{take_all, drop_all, length-drop}
use Rattle.std.specs.Prelude.{Result, Ok, Err}
use Rattle.std.specs.List.{position, position_or_len, before_first, after_first, list_all}
use Rattle.std.specs.Result.{result_ok}
use Rattle.std.specs.Str.Parse.{IsNumeral, ParsesUnsigned, digits_value, without_leading_plus}
use Rattle.device_lines.specs.Lines.{is_digit, is_filled}
use Rattle.cedar_cli.specs.Options.{fits_limit, limit_of}
use Rattle.device_lines.proofs.Figures.{at_first, digits_test, filled_test, filled_tested, tested_digits}

-- where none passes
pub at_none : (p : ℕ → Bool) (xs : List ℕ) → position p xs ≡ None → length xs ≤ position_or_len p xs
at_none p xs e = grind (arith, common_steps)

pub before_at : (p : ℕ → Bool) (xs : List ℕ) (i : ℕ) → position p xs ≡ Some i → take i xs ≡ before_first p xs
before_at p xs i e = ap (λ n. take n xs) (sym (at_first p xs i e))

pub after_at : (p : ℕ → Bool) (xs : List ℕ) (i : ℕ) → position p xs ≡ Some i → take (length xs - (i + 1)) (drop (i + 1) xs) ≡ after_first p xs
after_at p xs i e = take_all (length xs - (i + 1)) (drop (i + 1) xs) (omega (arith, length-drop (i + 1) xs)) ∙ ap (λ n. drop (n + 1) xs) (sym (at_first p xs i e))

pub before_none : (p : ℕ → Bool) (xs : List ℕ) → position p xs ≡ None → xs ≡ before_first p xs
before_none p xs e = sym (take_all (position_or_len p xs) xs (at_none p xs e))

pub after_none : (p : ℕ → Bool) (xs : List ℕ) → position p xs ≡ None → ◌≡◌ {A = List ℕ} [] (after_first p xs)
after_none p xs e = let h = at_none p xs e in sym (drop_all (position_or_len p xs + 1) xs (omega arith))

-- ---- a number of bytes

limit_test : (n : ℕ) → n < 2 ^ 64 → fits_limit n ≡ true
limit_test n h = let b : n < 18446744073709551616 = h in le-leb n 18446744073709551615 (omega (arith, b))

limit_tested : (n : ℕ) → fits_limit n ≡ true → n < 2 ^ 64
limit_tested n h = let b : n ≤ 18446744073709551615 = leb-true n 18446744073709551615 h in let c : n < 18446744073709551616 = omega (arith, b) in c

no_limit : (text : List ℕ) → (IsNumeral 10 (without_leading_plus text) × (digits_value 10 (without_leading_plus text) < 2 ^ 64) → ⊥) → None ≡ limit_of text
no_limit text never =
    let ds = without_leading_plus text in
    let n = digits_value 10 ds in
    (elim (is_filled ds && list_all is_digit ds && fits_limit n) as (λ b. (is_filled ds && list_all is_digit ds && fits_limit n) ≡ b → None ≡ cond b (Some n) None) [
      | true ↦ λ e.
          let p = and_parts (is_filled ds && list_all is_digit ds) (fits_limit n) e in
          let q = and_parts (is_filled ds) (list_all is_digit ds) p.0 in
          absurd (never ((filled_tested ds q.0, tested_digits ds q.1), limit_tested n p.1))
      | false ↦ λ e. refl
    ]) refl

-- what `parse` reads is the number of bytes that the text says
pub parsed_limit : {E : Type 0} (text : List ℕ) (r : Result ℕ E) → ParsesUnsigned 64 10 text r → result_ok r ≡ limit_of text
parsed_limit text (Ok n) h =
    rw (filled_test (without_leading_plus text) h.0.0.0, digits_test (without_leading_plus text) h.0.0.1, limit_test (digits_value 10 (without_leading_plus text)) h.0.1)
    (ap Some h.1)
parsed_limit text (Err e) h = no_limit text h
