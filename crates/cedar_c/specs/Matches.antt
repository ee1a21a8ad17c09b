-- What a walk writes into a buffer.
use Rattle.std.specs.Prelude.{ℕ, ◌+◌, ◌<◌, ◌^◌, ℤ, List, [], ◌∷◌, ◌++◌, drop, length}
use Rattle.std.specs.Prelude.{map, filter, nat_eq, take}
use Rattle.std.specs.List.{starts_with}
use Rattle.cedarwood.specs.Tree.{Tree}
use Rattle.cedarwood.specs.Queries.{front, walk}
use Rattle.cedar_c.specs.declared.walks.Match.{Match}

-- what a walk gives, a number and a length, with so many bytes more
abbrev pub longer : ℕ → ℤ × ℕ → ℤ × ℕ
longer more found = (found.0, found.1 + more)

-- all that a walk gives, each with so many bytes more
abbrev pub all_longer : ℕ → List (ℤ × ℕ) → List (ℤ × ℕ)
all_longer more found = map (longer more) found

-- these lengths, with so many bytes more, are numbers of 64 bits
abbrev pub Fit : ℕ → List (ℤ × ℕ) → Type 0
Fit more [] = Unit {0}
Fit more (f ∷ fs) = (f.1 + more < 2 ^ 64) × Fit more fs

-- the keys that a text begins with, the shortest first: number and length
abbrev pub front_keys : Tree → List ℕ → List (ℤ × ℕ)
front_keys t text = all_longer 1 (front t text)

-- the keys that begin with a text, in the order of the walk: number and length
abbrev pub predicted_keys : Tree → List ℕ → List (ℤ × ℕ)
predicted_keys t text = map (λ e. (e.1, length e.0)) (filter (λ e. starts_with nat_eq e.0 text) (walk t))

-- a number and a length as C's match
abbrev pub match_of : ℤ × ℕ → Match
match_of found = record { value = found.0; length = found.1 }

-- the elements of a buffer once what was found is written to the first ones, as far as there are elements
abbrev pub filled_matches : List Match → List (ℤ × ℕ) → List Match
filled_matches [] found = []
filled_matches (m ∷ matches) [] = m ∷ matches
filled_matches (m ∷ matches) (x ∷ found) = match_of x ∷ filled_matches matches found

-- the elements of a buffer once what was found is written behind the first ones
abbrev pub filled_from : ℕ → List Match → List (ℤ × ℕ) → List Match
filled_from place matches found = take place matches ++ filled_matches (drop place matches) found
