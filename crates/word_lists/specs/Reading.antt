-- The word that a text represents.
use Rattle.hex.specs.Hex.{decode_sized}
use Rattle.hex.specs.declared.FromHexError.{FromHexError}
use Rattle.std.specs.Prelude.{ℕ, zero, suc, ◌-◌, ◌==◌, ◌&&◌, if◌then◌else◌, List, []}
use Rattle.std.specs.Prelude.{◌∷◌, get_or, Result, Ok, Err}

-- the byte that two digits behind `\x` name, and how many bytes name it, which are four; or without two digits the
-- backslash itself, which is one
abbrev pub named_of : Result (List ℕ) FromHexError → ℕ × ℕ
named_of (Ok bytes) = (get_or bytes 0 0, 4)
named_of (Err e) = (92, 1)

-- the first byte that a text represents, and how many of the text's bytes represent it
abbrev pub first_read : List ℕ → ℕ × ℕ
first_read (b ∷ x ∷ high ∷ low ∷ rest) = if (b == 92) && (x == 120) then named_of (decode_sized (high ∷ low ∷ []) 1) else (b, 1)
first_read rest = (get_or rest 0 0, 1)

-- the bytes that a text represents behind its first bytes, so many of which are read already
abbrev pub bytes_behind : ℕ → List ℕ → List ℕ
bytes_behind done [] = []
bytes_behind zero (b ∷ rest) = (first_read (b ∷ rest)).0 ∷ bytes_behind ((first_read (b ∷ rest)).1 - 1) rest
bytes_behind (suc done) (b ∷ rest) = bytes_behind done rest

-- the word that a text represents: `\x` and two digits are a byte, and any other byte represents itself
abbrev pub read_as : List ℕ → List ℕ
read_as text = bytes_behind 0 text
