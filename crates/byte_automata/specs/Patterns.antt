-- Bytes that fit a pattern, and the places of it where they may end.
use Rattle.std.specs.Prelude.{ℕ, ◌+◌, ◌*◌, ◌/◌, ◌%◌, Bool, true, false, ◌==◌, ◌&&◌, ◌||◌, not, cond}
use Rattle.std.specs.Prelude.{if◌then◌else◌, List, [], ◌∷◌}

-- whether bytes fit a pattern: 42, a `*`, stands for any bytes, 63, a `?`, for any one, and each other byte for itself
unfoldable pub fits : List ℕ → List ℕ → Bool
fits [] [] = true
fits [] (b ∷ bytes) = false
fits (p ∷ pattern) [] = p == 42 && fits pattern []
fits (p ∷ pattern) (b ∷ bytes) =
    if p == 42 then fits pattern (b ∷ bytes) || fits (p ∷ pattern) bytes else (p == 63 || p == b) && fits pattern bytes

-- Places of a pattern are a number. Its lowest bit says whether what was read may end before the first byte of the pattern, the next one
-- whether it may end before the second, and so on up to the pattern's end.

-- a bit that says whether something holds
abbrev pub bit_of : Bool → ℕ
bit_of b = cond b 1 0

-- the places after one byte more, where `enters` says whether what is before the pattern leads to its first byte
unfoldable pub pattern_after : List ℕ → ℕ → Bool → ℕ → ℕ
pattern_after [] places enters byte = bit_of enters
pattern_after (p ∷ pattern) places enters byte =
    if p == 42 then bit_of (places % 2 == 1 || enters) + 2 * pattern_after pattern (places / 2) (places % 2 == 1 || enters) byte
    else bit_of enters + 2 * pattern_after pattern (places / 2) (places % 2 == 1 && (p == 63 || p == byte)) byte

-- the places before the first byte
unfoldable pub pattern_start : List ℕ → ℕ
pattern_start [] = 1
pattern_start (p ∷ pattern) = if p == 42 then 1 + 2 * pattern_start pattern else 1

-- whether the end of a pattern is among some of its places
unfoldable pub pattern_end : List ℕ → ℕ → Bool
pattern_end [] places = places % 2 == 1
pattern_end (p ∷ pattern) places = pattern_end pattern (places / 2)

-- whether there is any place: if not, nothing that goes on fits
abbrev pub pattern_may : ℕ → Bool
pattern_may places = not (places == 0)
