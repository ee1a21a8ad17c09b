-- Texts by the words of a dictionary: the words that one begins with, the words that are in it, and its cuts.
use Rattle.std.specs.Prelude.{ℕ, ℤ, ◌+◌, ◌-◌, ◌^◌, ◌<◌, ltb, nat_le, Bool, ◌==◌, ◌&&◌, ◌||◌}
use Rattle.std.specs.Prelude.{not, if◌then◌else◌, Option, Some, None, List, [], ◌∷◌, ◌++◌, map}
use Rattle.std.specs.Prelude.{length, take, drop, get_or, is_some, decimal, codes, int_le, pos}
use Rattle.std.specs.Prelude.{unsigned_abs}
use Rattle.cedarwood.specs.Queries.{Entry, front}
use Rattle.cedarwood.specs.Tree.{Tree}
use Rattle.cedar_words.specs.Words.{IsAheadCapped, IsBestCut, IsCheapestBy, IsCut, IsLeastCapped}
use Rattle.cedar_words.specs.Words.{Spot, Token}
use Rattle.cedar_words.specs.declared.models.UnknownRun.{UnknownRun}
use Rattle.cedar_words.specs.Words.{character_price, keywords_in, segments, spots_from}
use Rattle.std.specs.Borrow.{Bor}
use Rattle.word_lists.specs.declared.cut.Style.{Style}
use Rattle.word_lists.specs.declared.cut.Style.TheVariants.{Parted, Marked, Replaced}
use Rattle.word_lists.specs.Lines.{entry_line}

-- the entry of a word that a text begins with, of which its number and one less than its bytes are known
abbrev pub front_entry : List ℕ → ℤ × ℕ → Entry
front_entry text found = (take (found.1 + 1) text, found.0)

-- the words that a text begins with, each with its number, the shortest first
abbrev pub fronts_of : Tree → List ℕ → List Entry
fronts_of tree text = map (front_entry text) (front tree text)

-- so many bytes of a text from a position on, or as many as there are
abbrev pub text_part : List ℕ → ℕ → ℕ → List ℕ
text_part text start len = take len (drop start text)

-- whether a line ends with a byte
abbrev pub ends_with : ℕ → List ℕ → Bool
ends_with b line = ltb 0 (length line) && (get_or line (length line - 1) 0 == b)

-- a line without its last byte, if that is this one
abbrev pub without_last : ℕ → List ℕ → List ℕ
without_last b line = if ends_with b line then take (length line - 1) line else line

-- a line without the bytes that end it: byte 10, and a byte 13 before that
abbrev pub body_of : List ℕ → List ℕ
body_of line = if ends_with 10 line then without_last 13 (without_last 10 line) else line

-- the bytes that end a line: byte 10 and a byte 13 before that, if it has them
abbrev pub ending_of : List ℕ → List ℕ
ending_of line = drop (length (body_of line)) line

-- whether a byte goes on with a character of UTF-8
abbrev pub continues_character : ℕ → Bool
continues_character b = nat_le 128 b && ltb b 192

-- how many characters begin with a byte: one, or none
abbrev pub characters_begun : ℕ → ℕ
characters_begun b = if continues_character b then 0 else 1

-- how many characters begin in some bytes
abbrev pub characters : List ℕ → ℕ
characters [] = 0
characters (b ∷ bytes) = characters_begun b + characters bytes

-- whether a sign comes before a token: none before the first one, and none before a byte without a number that goes on with a
-- character
abbrev pub is_parted : List ℕ → Token → Bool
is_parted text t = ltb 0 t.0 && (is_some t.2 || not (continues_character (get_or text t.0 0)))

-- what comes before a token: the sign, or nothing
abbrev pub parting : List ℕ → List ℕ → Token → List ℕ
parting sign text t = if is_parted text t then sign else []

-- the text of a token, and before it what comes there (`parting`)
abbrev pub parted_token : List ℕ → List ℕ → Token → List ℕ
parted_token sign text t = parting sign text t ++ text_part text t.0 t.1

-- the texts of some tokens, one behind another
abbrev pub texts_of : (Token → List ℕ) → List Token → List ℕ
texts_of text_of [] = []
texts_of text_of (t ∷ tokens) = text_of t ++ texts_of text_of tokens

-- the tokens of a text with a sign between them
abbrev pub cut_text : List ℕ → List ℕ → List Token → List ℕ
cut_text sign text tokens = texts_of (parted_token sign text) tokens

-- a line cut into these tokens, with a sign between them and the bytes that end it behind them
abbrev pub line_cut : List ℕ → List ℕ → List Token → List ℕ
line_cut sign line tokens = cut_text sign (body_of line) tokens ++ ending_of line

-- a line cut at each position into the longest key that begins there, or else one byte
abbrev pub greedy_line : Tree → List ℕ → List ℕ → List ℕ
greedy_line tree sign line = line_cut sign line (segments tree (body_of line))

-- what begins the colour of a match on a terminal, as grep writes it
abbrev pub mark_on : List ℕ
mark_on = 27 ∷ (codes "[01;31m" ++ (27 ∷ codes "[K"))

-- what ends the colour of a match on a terminal, as grep writes it
abbrev pub mark_off : List ℕ
mark_off = 27 ∷ (codes "[m" ++ (27 ∷ codes "[K"))

-- a word in the colour of a match
abbrev pub mark_text : List ℕ → List ℕ
mark_text word = mark_on ++ (word ++ mark_off)

-- the text of a token; that of a key in the colour of a match
abbrev pub marked_token : List ℕ → Token → List ℕ
marked_token text t = if is_some t.2 then mark_text (text_part text t.0 t.1) else text_part text t.0 t.1

-- a line with each of its keywords in the colour of a match; nothing if it has none
abbrev pub marked_line : Tree → List ℕ → List ℕ
marked_line tree line =
    if ltb 0 (length (keywords_in tree (body_of line))) then texts_of (marked_token (body_of line)) (segments tree (body_of line)) ++ ending_of line else []

-- the line at a position of a list, or else the word itself
abbrev pub line_at : List (Bor (List ℕ)) → ℕ → List ℕ → List ℕ
line_at lines place own = get_or (map (λ line. line.now) lines) place own

-- the line of a number, counted from 1, or else the word itself
abbrev pub replacement : List (Bor (List ℕ)) → ℤ → List ℕ → List ℕ
replacement lines number own = if int_le (pos 1) number then line_at lines (unsigned_abs number - 1) own else own

-- the line of a number, if there is a number, or else the word itself
abbrev pub replaced_by : List (Bor (List ℕ)) → Option ℤ → List ℕ → List ℕ
replaced_by lines None own = own
replaced_by lines (Some number) own = replacement lines number own

-- the text of a token; that of a key as the line of its number, if there is one
abbrev pub replaced_token : List (Bor (List ℕ)) → List ℕ → Token → List ℕ
replaced_token lines text t = replaced_by lines t.2 (text_part text t.0 t.1)

-- the text of some tokens, each key as the line of its number
abbrev pub replaced_text : List (Bor (List ℕ)) → List ℕ → List Token → List ℕ
replaced_text lines text tokens = texts_of (replaced_token lines text) tokens

-- a line with each of its keywords as the line of its number, and the bytes that end it
abbrev pub replaced_line : Tree → List (Bor (List ℕ)) → List ℕ → List ℕ
replaced_line tree lines line = replaced_text lines (body_of line) (segments tree (body_of line)) ++ ending_of line

-- the text of a token in a style
abbrev pub style_text : Style → List ℕ → Token → List ℕ
style_text (Parted sign) text t = parted_token sign.now text t
style_text Marked text t = marked_token text t
style_text (Replaced lines) text t = replaced_token lines.now text t

-- the text of some tokens in a style
abbrev pub styled_text : Style → List ℕ → List Token → List ℕ
styled_text style text tokens = texts_of (style_text style text) tokens

-- a line whose text is these tokens in a style, and the bytes that end it
abbrev pub styled_line : Style → List ℕ → List Token → List ℕ
styled_line style line tokens = styled_text style (body_of line) tokens ++ ending_of line

-- a cut of a text that costs the least, if a key costs its number and a character that no key has this much, and that
-- is ahead of all that cost as little. Of a text of fewer than 2^32 bytes there is one such cut. Of a longer one sums
-- above 2^64 - 1 count as 2^64 - 1, and it is ahead of those that cost as little and no more than 2^64 - 1
pub record IsCheapestCut (tree : Tree) (unknown : ℕ) (text : List ℕ) (tokens : List Token) : Type 0 where
  pub cut : IsCut tree text tokens
  pub least : length text < 2 ^ 32 → IsCheapestBy tree (character_price unknown text) text tokens
  pub capped : IsLeastCapped tree (character_price unknown text) text tokens
  pub ahead : IsAheadCapped tree (character_price unknown text) text tokens

-- P holds of a line that is cut into the tokens of a cheapest cut (`IsCheapestCut`), with a sign between them
abbrev pub OnCheapestLine : Tree → ℕ → List ℕ → List ℕ → (List ℕ → Type 0) → Type 0
OnCheapestLine tree unknown sign line P = (tokens : List Token) × IsCheapestCut tree unknown (body_of line) tokens × P (line_cut sign line tokens)

-- P holds of a line that is cut into the tokens of its best cut by a model of costs (`IsBestCut`), with a sign between them
abbrev pub OnBestLine : Tree → (ℤ → ℕ) → (List ℕ → ℕ → UnknownRun) → List ℕ → List ℕ → (List ℕ → Type 0) → Type 0
OnBestLine tree key run sign line P =
    (tokens : List Token) × IsBestCut tree key (run (body_of line)) (body_of line) tokens × P (line_cut sign line tokens)

-- a number and a tab
abbrev pub tab_field : ℕ → List ℕ
tab_field number = decimal number ++ 9 ∷ []

-- the line of a word that is in a text: the number of the text's line, the column, the word and its number, with tabs between them.
-- A column is one more than how many characters begin before the word
abbrev pub spot_line : ℕ → List ℕ → Spot → List ℕ
spot_line number text s = tab_field number ++ (tab_field (1 + characters (take s.0 text)) ++ entry_line (text_part text s.0 s.1, s.2))

-- the lines of some words that are in a text
abbrev pub spot_lines : ℕ → List ℕ → List Spot → List ℕ
spot_lines number text [] = []
spot_lines number text (s ∷ spots) = spot_line number text s ++ spot_lines number text spots

-- the lines of all words that are in a line
abbrev pub match_lines : Tree → ℕ → List ℕ → List ℕ
match_lines tree number line = spot_lines number (body_of line) (spots_from tree 0 (body_of line))

-- the lines of all keywords of a line
abbrev pub keyword_lines : Tree → ℕ → List ℕ → List ℕ
keyword_lines tree number line = spot_lines number (body_of line) (keywords_in tree (body_of line))
