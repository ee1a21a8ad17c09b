-- Keys that are in a text.
use Rattle.std.specs.Prelude.{◌≡◌, ℕ, ◌+◌, ◌-◌, ◌<◌, ◌≤◌, ℤ, List, [], ◌∷◌, ◌++◌, length, drop}
use Rattle.std.specs.Prelude.{take, map, Option, Some, None, option_map}
use Rattle.std.specs.List.{filter_map}
use Rattle.cedarwood.specs.Tree.{Tree, number_at}
use Rattle.cedarwood.specs.Queries.{front}
use Rattle.cedar_words.specs.Tokens.{Token, longest, segments, tokens_behind}

-- a key in a text: its position, its length and its number
abbrev pub Spot : Type 0
Spot = ℕ × ℕ × ℤ

-- these bytes of the text, one or more, are a key with this number
abbrev pub IsKeyIn : Tree → List ℕ → Spot → Type 0
IsKeyIn tree text s = (0 < s.1) × (s.0 + s.1 ≤ length text) × (number_at tree (take s.1 (drop s.0 text)) ≡ Some s.2)

-- a key that was found at a position, of which its number and one less than its bytes are known
abbrev pub spot : ℕ → ℤ × ℕ → Spot
spot place found = (place, found.1 + 1, found.0)

-- all keys of a text of which these bytes are left from a position on: position after position, at each the shortest
-- first
abbrev pub spots_from : Tree → ℕ → List ℕ → List Spot
spots_from tree place [] = []
spots_from tree place (b ∷ rest) = map (spot place) (front tree (b ∷ rest)) ++ spots_from tree (place + 1) rest

-- the keys that are left in a text if a walk is under way at a position, which has these fronts left
abbrev pub spots_left : Tree → List ℕ → ℕ → List (ℤ × ℕ) → List Spot
spots_left tree text place fronts = map (spot place) fronts ++ spots_from tree (place + 1) (drop (place + 1) text)

-- the same as `spots_left`, of a position and a walk as one value
abbrev pub spots_at : Tree → List ℕ → ℕ × List (ℤ × ℕ) → List Spot
spots_at tree text at = spots_left tree text at.0 at.1

-- the keyword that a token with a number is
abbrev pub keyword_of : Token → Option Spot
keyword_of t = option_map (λ v. (t.0, t.1, v)) t.2

-- the tokens that have a number
abbrev pub keywords_of : List Token → List Spot
keywords_of tokens = filter_map keyword_of tokens

-- the keywords of a text of which these bytes are left from a position on: of the keys that begin first the longest,
-- and so on from its end
abbrev pub keywords_from : Tree → ℕ → List ℕ → List Spot
keywords_from tree place rest = keywords_of (tokens_behind tree 0 place rest)

-- the keywords of a text
abbrev pub keywords_in : Tree → List ℕ → List Spot
keywords_in tree text = keywords_of (segments tree text)

-- from a position on no key begins before the first of these keywords, between two or behind the last one, and each
-- is the longest key that begins at its position
abbrev pub IsLeftmost : Tree → List ℕ → ℕ → List Spot → Type 0
IsLeftmost tree text from [] = (place : ℕ) → from ≤ place → longest tree (drop place text) ≡ None
IsLeftmost tree text from (s ∷ spots) =
    ((place : ℕ) → from ≤ place → place < s.0 → longest tree (drop place text) ≡ None)
    × (from ≤ s.0) × (0 < s.1) × (longest tree (drop s.0 text) ≡ Some (s.2, s.1 - 1))
    × IsLeftmost tree text (s.0 + s.1) spots
