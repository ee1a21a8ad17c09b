-- Cuts of a text into keys and single bytes, and what they cost.
use Rattle.std.specs.Prelude.{◌≡◌, ℕ, ◌+◌, ◌-◌, ◌^◌, ◌<◌, ◌≤◌, ◌⊎◌, min, nat_le, if◌then◌else◌, ℤ}
use Rattle.std.specs.Prelude.{unsigned_abs, List, [], ◌∷◌, length, drop, take, slice_index_or}
use Rattle.std.specs.Prelude.{Option, Some, None, MatchOption}
use Rattle.cedarwood.specs.Tree.{Tree, number_at}
use Rattle.cedar_words.specs.Tokens.{Token}

-- a token at the beginning of some bytes: a key with its number, or one byte without a number
abbrev pub IsPiece : Tree → List ℕ → Token → Type 0
IsPiece tree rest t = MatchOption t.2 (t.1 ≡ 1) (λ v. number_at tree (take t.1 rest) ≡ Some v)

-- from a position to the end of a text each token begins where the one before it ended, has one byte or more, and is a key with its
-- number, or one byte without a number
abbrev pub IsCutFrom : Tree → List ℕ → ℕ → List Token → Type 0
IsCutFrom tree text place [] = place ≡ length text
IsCutFrom tree text place (t ∷ tokens) =
    (t.0 ≡ place) × (0 < t.1) × IsPiece tree (drop place text) t × IsCutFrom tree text (place + t.1) tokens

-- the tokens are a cut of the text
abbrev pub IsCut : Tree → List ℕ → List Token → Type 0
IsCut tree text tokens = IsCutFrom tree text 0 tokens

-- what a token costs: its number, or without one what `unknown` says of its position. No number is negative
abbrev pub price : ℕ → Option ℤ → ℕ
price unknown None = unknown
price unknown (Some v) = unsigned_abs v

-- what some tokens cost together, the first of them at a position (`price`)
abbrev pub cost_by : (ℕ → ℕ) → List Token → ℕ
cost_by unknown [] = 0
cost_by unknown (t ∷ tokens) = price (unknown t.0) t.2 + cost_by unknown tokens

-- what a byte without a number costs at a position, so that a character costs once: nothing if it goes on with a
-- character of UTF-8 (128 to 191), and else `unknown`
abbrev pub character_price : ℕ → List ℕ → ℕ → ℕ
character_price unknown text place = if nat_le 128 (slice_index_or text place 0) then (if nat_le 192 (slice_index_or text place 0) then unknown else 0) else unknown

-- where the lengths of two cuts' tokens first differ, the first cut has the longer one, and before that it has each
-- key that the other one has
abbrev pub IsAhead : List Token → List Token → Type 0
IsAhead [] other = Unit {0}
IsAhead (t ∷ tokens) [] = ⊥
IsAhead (t ∷ tokens) (o ∷ other) =
    (o.1 < t.1) ⊎ ((t.1 ≡ o.1) × MatchOption o.2 (Unit {0}) (λ v. t.2 ≡ Some v) × IsAhead tokens other)

-- a cut that costs no more than any, and is ahead of each that costs no more. There is one at most
pub record IsCheapestBy (tree : Tree) (unknown : ℕ → ℕ) (text : List ℕ) (tokens : List Token) : Type 0 where
  pub cut : IsCut tree text tokens
  pub least : (other : List Token) → IsCut tree text other → cost_by unknown tokens ≤ cost_by unknown other
  pub ahead : (other : List Token) → IsCut tree text other → cost_by unknown other ≤ cost_by unknown tokens → IsAhead tokens other

-- two cheapest cuts of a text (`IsCheapestBy`) are the same
abbrev pub HasOneCheapest : Tree → (ℕ → ℕ) → List ℕ → Type 0
HasOneCheapest tree unknown text = (one other : List Token) → IsCheapestBy tree unknown text one → IsCheapestBy tree unknown text other → one ≡ other

-- no cut costs less than these tokens, if sums above 2 ^ 64 - 1 count as 2 ^ 64 - 1
abbrev pub IsLeastCapped : Tree → (ℕ → ℕ) → List ℕ → List Token → Type 0
IsLeastCapped tree unknown text tokens = (other : List Token) → IsCut tree text other → min (cost_by unknown tokens) (2 ^ 64 - 1) ≤ cost_by unknown other

-- the tokens are ahead of each cut that costs as little, and no more than 2 ^ 64 - 1
abbrev pub IsAheadCapped : Tree → (ℕ → ℕ) → List ℕ → List Token → Type 0
IsAheadCapped tree unknown text tokens = (other : List Token) → IsCut tree text other → cost_by unknown other ≤ min (cost_by unknown tokens) (2 ^ 64 - 1) → IsAhead tokens other

-- a cheapest cut (`IsCheapestBy`), if each byte without a number costs the same
abbrev pub IsCheapest : Tree → ℕ → List ℕ → List Token → Type 0
IsCheapest tree unknown text tokens = IsCheapestBy tree (λ _. unknown) text tokens
