-- What a plain search finds, which looks for the keys that begin at each position.
use Rattle.std.specs.Prelude.{◌≡◌, ℕ, ◌+◌, ◌<◌, ◌≤◌, ℤ, List, [], ◌∷◌, ◌++◌, length, map, take, drop, Some}
use Rattle.cedar_tree.specs.Queries.{front}
use Rattle.cedar_tree.specs.Tree.{number_at, Tree}
use Rattle.cedar_scan.specs.Suffixes.{Occurrence}

-- these bytes of a text, one or more, are a key with this number
abbrev pub OccursIn : Tree → List ℕ → Occurrence → Type 0
OccursIn t text s = (0 < s.1) × (s.0 + s.1 ≤ length text) × (number_at t (take s.1 (drop s.0 text)) ≡ Some s.2)

-- a key that was found to begin at a position, by its number and one less than its bytes
abbrev pub occurrence_beginning : ℕ → ℤ × ℕ → Occurrence
occurrence_beginning place found = (place, found.1 + 1, found.0)

-- all keys in a text, of which these bytes are left from a position on: position after position, at each the shortest first
abbrev pub all_beginning : Tree → ℕ → List ℕ → List Occurrence
all_beginning t place [] = []
all_beginning t place (b ∷ rest) = map (occurrence_beginning place) (front t (b ∷ rest)) ++ all_beginning t (place + 1) rest
