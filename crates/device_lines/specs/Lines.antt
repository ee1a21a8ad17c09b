-- Bytes of lines.
use Rattle.std.specs.Prelude.{ℕ, ℤ, pos, negsuc, Bool, true, false, ◌&&◌, nat_le, int_le, List, []}
use Rattle.std.specs.Prelude.{◌∷◌, Option, None, Some, if◌then◌else◌}
use Rattle.std.specs.List.{list_all}
use Rattle.std.specs.Str.Parse.{signed_digits_value, without_leading_sign}

-- whether a byte is one from `0` to `9`
abbrev pub is_digit : ℕ → Bool
is_digit c = nat_le 48 c && nat_le c 57

-- whether there is one byte or more
abbrev pub is_filled : List ℕ → Bool
is_filled [] = false
is_filled (b ∷ bs) = true

-- whether a number is from -2147483648 to 2147483647
abbrev pub fits_number : ℤ → Bool
fits_number v = int_le (negsuc 2147483647) v && int_le v (pos 2147483647)

-- the number that figures say: `+`, `-` or neither, and then one or more decimal digits, which lies in -2147483648 to
-- 2147483647. Leading zeros are allowed
abbrev pub figures_number : List ℕ → Option ℤ
figures_number text =
    if is_filled (without_leading_sign text) && list_all is_digit (without_leading_sign text) && fits_number (signed_digits_value 10 text)
    then Some (signed_digits_value 10 text) else None

-- the lines with a byte at the front of the first
abbrev pub onto_first : ℕ → List (List ℕ) → List (List ℕ)
onto_first b [] = (b ∷ []) ∷ []
onto_first b (line ∷ lines) = (b ∷ line) ∷ lines
