-- The lines of words and their numbers.
use Rattle.std.specs.Prelude.{ℕ, ℤ, ltb, Bool, false, ◌==◌, ◌&&◌, ◌||◌, not, if◌then◌else◌}
use Rattle.std.specs.Prelude.{List, [], ◌∷◌, ◌++◌, decimal, Option, Some, None}
use Rattle.std.specs.Ordering.{int_eq}
use Rattle.std.specs.Str.{is_utf8}
use Rattle.std.specs.Fmt.{signed_decimal}
use Rattle.hex.specs.Hex.{encode_lower}
use Rattle.cedarwood.specs.Queries.{Entry}
use Rattle.cedarwood.specs.Tree.{Tree, number_at}

-- whether a byte of a word is written as it is: no tab, no byte 10, no backslash, and below 128 where the word isn't UTF-8
abbrev pub is_plain : Bool → ℕ → Bool
is_plain text b = not (b == 9) && (not (b == 10) && (not (b == 92) && (text || ltb b 128)))

-- a byte as it is, or as `\x` and two digits
abbrev pub byte_text : Bool → ℕ → List ℕ
byte_text text b = if is_plain text b then b ∷ [] else (92 ∷ (120 ∷ encode_lower (b ∷ [])))

-- the text of some bytes of a word, which is UTF-8 or not
abbrev pub escape : Bool → List ℕ → List ℕ
escape text [] = []
escape text (b ∷ bytes) = byte_text text b ++ escape text bytes

-- a word as it is written
abbrev pub word_text : List ℕ → List ℕ
word_text word = escape (is_utf8 word) word

-- the line of an entry: a word, a tab, its number and byte 10
abbrev pub entry_line : Entry → List ℕ
entry_line entry = word_text entry.0 ++ (9 ∷ [] ++ (signed_decimal entry.1 ++ 10 ∷ []))

-- the lines of some entries
abbrev pub entry_lines : List Entry → List ℕ
entry_lines [] = []
entry_lines (entry ∷ entries) = entry_line entry ++ entry_lines entries

-- the line of a word that was looked up, and nothing for one that isn't held
abbrev pub found_line : List ℕ → Option ℤ → List ℕ
found_line word None = []
found_line word (Some number) = entry_line (word, number)

-- an entry's line behind a sign
abbrev pub signed_line : List ℕ → Entry → List ℕ
signed_line sign entry = sign ++ entry_line entry

-- the lines of some entries, each behind a sign
abbrev pub signed_lines : List ℕ → List Entry → List ℕ
signed_lines sign [] = []
signed_lines sign (entry ∷ entries) = signed_line sign entry ++ signed_lines sign entries

-- whether a number is held and is this one
abbrev pub is_number : Option ℤ → ℤ → Bool
is_number None v = false
is_number (Some held) v = int_eq held v

-- whether a tree holds a key with this number
abbrev pub holds_entry : Tree → Entry → Bool
holds_entry tree entry = is_number (number_at tree entry.0) entry.1

-- the entries that a tree doesn't hold with the same number
abbrev pub entries_missing : Tree → List Entry → List Entry
entries_missing tree [] = []
entries_missing tree (entry ∷ entries) = if holds_entry tree entry then entries_missing tree entries else entry ∷ entries_missing tree entries

-- the lines of the entries that a tree doesn't hold with the same number, each behind a sign
abbrev pub missing_lines : List ℕ → Tree → List Entry → List ℕ
missing_lines sign tree entries = signed_lines sign (entries_missing tree entries)

-- the line of a number: its decimal digits and byte 10
abbrev pub count_line : ℕ → List ℕ
count_line number = decimal number ++ 10 ∷ []
