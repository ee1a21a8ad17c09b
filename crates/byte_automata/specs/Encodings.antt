-- That the characters of a text's bytes are those of the text, and that no other bytes are characters.
use Rattle.std.specs.Prelude.{◌≡◌, ℕ, true, List, Some}
use Rattle.std.specs.Str.{all_scalars, encode_utf8_all}
use Rattle.byte_automata.specs.Characters.{characters_of}

-- the characters that are read of a text's bytes are those of the text, whatever they are
abbrev pub ReadsCharacters : Type 0
ReadsCharacters = (text : List ℕ) → all_scalars text ≡ true → characters_of (encode_utf8_all text) ≡ Some text

-- bytes that are read as characters are the UTF-8 of these characters
abbrev pub ReadsOnlyUtf8 : Type 0
ReadsOnlyUtf8 = (bytes text : List ℕ) → characters_of bytes ≡ Some text → (all_scalars text ≡ true) × (encode_utf8_all text ≡ bytes)
