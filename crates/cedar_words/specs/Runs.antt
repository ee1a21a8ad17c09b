-- Unknown runs of a text: one character, or the characters of one class that follow one another.
use Rattle.std.specs.Prelude.{◌≡◌, ℕ, zero, suc, ◌+◌, ◌-◌, ◌*◌, ◌%◌, nat_le, nat_lt, Bool, true}
use Rattle.std.specs.Prelude.{false, ◌&&◌, ◌||◌, if◌then◌else◌, ℤ, pos, negsuc, List, [], ◌∷◌}
use Rattle.std.specs.Prelude.{drop, MatchOption, Option, slice_index_or}
use Rattle.cedar_words.specs.declared.models.UnknownRun.{UnknownRun}

-- what a key costs whose number is an index of a table, or how much it costs if it is none
abbrev pub cost_in_table : List ℕ → ℕ → ℤ → ℕ
cost_in_table costs beyond (pos n) = slice_index_or costs n beyond
cost_in_table costs beyond (negsuc n) = beyond

-- one byte, also beside keys
abbrev pub byte_run : ℕ → UnknownRun
byte_run cost = record { len = 1; cost = cost; beside_keys = true }

-- an unknown run of the same bytes that may stand only where no key begins
abbrev pub only_without_key : UnknownRun → UnknownRun
only_without_key run = record { len = run.len; cost = run.cost; beside_keys = false }

-- whether a byte continues a character of UTF-8
abbrev pub is_continuation : ℕ → Bool
is_continuation byte = nat_le 128 byte && nat_lt byte 192

-- how many of some bytes, from the first on, continue a character
abbrev pub character_rest : List ℕ → ℕ
character_rest [] = 0
character_rest (byte ∷ rest) = if is_continuation byte then suc (character_rest rest) else 0

-- how many bytes the character at a position has; a position inside one has one
abbrev pub character_len : List ℕ → ℕ → ℕ
character_len text place = if is_continuation (slice_index_or text place 0) then 1 else 1 + character_rest (drop (place + 1) text)

-- the character at a position, also beside keys
abbrev pub character_run : ℕ → List ℕ → ℕ → UnknownRun
character_run cost text place = record { len = character_len text place; cost = cost; beside_keys = true }

-- the last six bits of a byte
abbrev pub low_bits : List ℕ → ℕ → ℕ
low_bits bytes index = slice_index_or bytes index 0 % 64

-- the number of the character that some bytes begin with, in UTF-8. A byte below 192 is its own number, and bytes behind the end are 0
abbrev pub character_code : List ℕ → ℕ
character_code bytes =
    let lead = slice_index_or bytes 0 0 in
    if nat_lt lead 192 then lead
    else if nat_lt lead 224 then lead % 32 * 64 + low_bits bytes 1
    else if nat_lt lead 240 then (lead % 16 * 64 + low_bits bytes 1) * 64 + low_bits bytes 2
    else ((lead % 8 * 64 + low_bits bytes 1) * 64 + low_bits bytes 2) * 64 + low_bits bytes 3

-- how many of some bytes belong to characters that are alike to the first one, which came before them: so many characters at most, whole
abbrev pub class_rest : (ℕ → ℕ → Bool) → ℕ → ℕ → List ℕ → ℕ
class_rest alike first most [] = 0
class_rest alike first zero (byte ∷ rest) = if is_continuation byte then suc (class_rest alike first zero rest) else 0
class_rest alike first (suc most) (byte ∷ rest) =
    if is_continuation byte then suc (class_rest alike first (suc most) rest)
    else if alike first (character_code (byte ∷ rest)) then suc (class_rest alike first most rest) else 0

-- how many more characters a run may have once it has the first of these bytes, or nothing if it ends before that
abbrev pub LeavesCharacters : (ℕ → ℕ → Bool) → ℕ → ℕ → List ℕ → Option ℕ → Type 0
LeavesCharacters alike first left bytes result =
    MatchOption result (class_rest alike first left bytes ≡ 0) (λ more. class_rest alike first left bytes ≡ 1 + class_rest alike first more (drop 1 bytes))

-- how many bytes the run of one class at a position has: it has so many characters at most, but one whole one at least; a position inside
-- a character has one byte
abbrev pub class_len : (ℕ → ℕ → Bool) → ℕ → List ℕ → ℕ → ℕ
class_len alike most text place =
    if is_continuation (slice_index_or text place 0) then 1
    else 1 + class_rest alike (character_code (drop place text)) (most - 1) (drop (place + 1) text)

-- the run of one class at a position, also beside keys
abbrev pub class_run : (ℕ → ℕ → Bool) → ℕ → ℕ → List ℕ → ℕ → UnknownRun
class_run alike most cost text place = record { len = class_len alike most text place; cost = cost; beside_keys = true }

-- a number from the first to the last
abbrev pub is_between : ℕ → ℕ → ℕ → Bool
is_between first last code = nat_le first code && nat_le code last

-- letters of the Latin, Greek and Cyrillic scripts, also wide ones
abbrev pub is_letter : ℕ → Bool
is_letter code =
    is_between 0x41 0x5A code || is_between 0x61 0x7A code || is_between 0xC0 0xD6 code || is_between 0xD8 0xF6 code
    || is_between 0xF8 0x24F code || is_between 0x370 0x52F code || is_between 0x1E00 0x1FFF code || is_between 0xFF21 0xFF3A code
    || is_between 0xFF41 0xFF5A code

-- digits, also wide ones
abbrev pub is_numeral : ℕ → Bool
is_numeral code = is_between 0x30 0x39 code || is_between 0xFF10 0xFF19 code

-- the characters of Chinese, with their radicals and the two marks that repeat one and stand for zero
abbrev pub is_han : ℕ → Bool
is_han code =
    is_between 0x4E00 0x9FFF code || is_between 0x3400 0x4DBF code || is_between 0x3005 0x3005 code || is_between 0x3007 0x3007 code
    || is_between 0x2E80 0x2FD5 code || is_between 0xF900 0xFAFF code || is_between 0x2_0000 0x3_FFFF code

-- the characters of Hiragana
abbrev pub is_hiragana : ℕ → Bool
is_hiragana code = is_between 0x3041 0x309F code

-- the characters of Katakana, narrow ones and the mark of a long vowel among them, but not the point between words
abbrev pub is_katakana : ℕ → Bool
is_katakana code =
    is_between 0x30A1 0x30FA code || is_between 0x30FC 0x30FF code || is_between 0x31F0 0x31FF code || is_between 0xFF66 0xFF9F code

-- the syllables of Hangul, and the letters that they are made of
abbrev pub is_hangul : ℕ → Bool
is_hangul code = is_between 0xAC00 0xD7A3 code || is_between 0x1100 0x11FF code || is_between 0x3130 0x318F code

-- two characters are letters, or digits, or of one script
abbrev pub are_one_script : ℕ → ℕ → Bool
are_one_script a b =
    is_letter a && is_letter b || is_numeral a && is_numeral b || is_han a && is_han b || is_hiragana a && is_hiragana b
    || is_katakana a && is_katakana b || is_hangul a && is_hangul b
