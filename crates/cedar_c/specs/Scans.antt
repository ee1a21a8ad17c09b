-- What a text has at all of its positions, written into a buffer.
use Rattle.std.specs.Prelude.{◌≡◌, ℕ, ◌+◌, ℤ, negsuc, List, [], ◌∷◌, ◌++◌, drop}
use Rattle.std.specs.Prelude.{map, Option, Some, None}
use Rattle.cedarwood.specs.Tree.{Tree}
use Rattle.cedarwood.specs.Queries.{front}
use Rattle.cedar_words.specs.Words.{Spot, Token, keywords_of, tokens_behind}
use Rattle.cedar_c.specs.declared.scans.Found.{Found}

-- a key that was found at a position, as C has it
abbrev pub found_spot : ℕ → ℤ × ℕ → Found
found_spot place found = record { place = place; length = found.1 + 1; value = found.0 }

-- the keys of a text of which these bytes are left from a position on: position after position, at each the shortest
-- first, each with its position, length and number
abbrev pub found_spots : Tree → ℕ → List ℕ → List Found
found_spots tree place [] = []
found_spots tree place (b ∷ rest) = map (found_spot place) (front tree (b ∷ rest)) ++ found_spots tree (place + 1) rest

-- the value of a token as C has it: its number, or -1
abbrev pub number_or_none : Option ℤ → ℤ
number_or_none None = negsuc 0
number_or_none (Some v) = v

-- a token as C has it
abbrev pub found_token : Token → Found
found_token t = record { place = t.0; length = t.1; value = number_or_none t.2 }

-- the tokens of a text of which these bytes are left from a position on, as C has them
abbrev pub found_tokens : Tree → ℕ → List ℕ → List Found
found_tokens tree place rest = map found_token (tokens_behind tree 0 place rest)

-- a keyword as C has it
abbrev pub found_keyword : Spot → Found
found_keyword s = record { place = s.0; length = s.1; value = s.2 }

-- the keywords of a text of which these bytes are left from a position on, as C has them
abbrev pub found_keywords : Tree → ℕ → List ℕ → List Found
found_keywords tree place rest = map found_keyword (keywords_of (tokens_behind tree 0 place rest))

-- a piece of what a text has was written: what it has from one position on is what was written, and then what it has
-- from another position on
abbrev pub WritesPiece : (ℕ → List ℕ → List Found) → List ℕ → ℕ → ℕ → List Found → Type 0
WritesPiece stands text before after written = stands before (drop before text) ≡ written ++ stands after (drop after text)

-- a piece was continued: what was written first, and then what the text has from one position on, is what is written
-- now, and then what it has from another position on
abbrev pub WritesOn : (ℕ → List ℕ → List Found) → List ℕ → ℕ → ℕ → List Found → List Found → Type 0
WritesOn stands text before after first written = first ++ stands before (drop before text) ≡ written ++ stands after (drop after text)
