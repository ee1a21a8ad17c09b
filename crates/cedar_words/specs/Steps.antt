-- How a cut of least cost is found: what the last bytes of a text cost, none of them, one, and so on, each by what fewer cost.
use Rattle.std.specs.Prelude.{◌≡◌, ℕ, zero, suc, ◌+◌, ◌-◌, ◌^◌, ◌<◌, ◌⊎◌, min, nat_le}
use Rattle.std.specs.Prelude.{if◌then◌else◌, ℤ, pos, unsigned_abs, List, [], ◌∷◌, length, drop}
use Rattle.std.specs.Prelude.{take, slice_index_or, Option, Some, None, MatchOption}
use Rattle.cedarwood.specs.Tree.{Tree}
use Rattle.cedarwood.specs.Queries.{front}
use Rattle.cedar_words.specs.Tokens.{Token}
use Rattle.cedar_words.specs.declared.costs.Step.{Step}

-- what the last bytes of a text cost, so many of them
abbrev pub cost_at : List ℕ → ℕ → ℕ
cost_at costs left = slice_index_or costs left 0

-- a step over some bytes at a price, if what fewer bytes cost is known
abbrev pub step_over : List ℕ → ℕ → ℕ → Option ℤ → Step
step_over later price len value = record {
  cost = min (price + cost_at later (length later - len)) (2 ^ 64 - 1);
  len = len;
  value = value;
}

-- a step over a key that was found, of which its number and one less than its bytes are known
abbrev pub key_step : List ℕ → ℤ × ℕ → Step
key_step later found = step_over later (unsigned_abs found.0) (found.1 + 1) (Some found.0)

-- the cheaper of two steps, and the second one if they cost the same
abbrev pub better_of : Step → Step → Step
better_of first second = if nat_le second.cost first.cost then second else first

-- the best of a step and of those over some keys
abbrev pub best_from : List ℕ → Step → List (ℤ × ℕ) → Step
best_from later best [] = best
best_from later best (found ∷ fronts) = best_from later (better_of best (key_step later found)) fronts

-- the best of the step over one byte and of those over some keys
abbrev pub best_of : ℕ → List ℕ → List (ℤ × ℕ) → Step
best_of unknown later fronts = best_from later (step_over later unknown 1 None) fronts

-- keys that were found have no more bytes than this
abbrev pub AreWithin : ℕ → List (ℤ × ℕ) → Type 0
AreWithin most [] = Unit {0}
AreWithin most (found ∷ fronts) = (found.1 < most) × AreWithin most fronts

-- the best step over so many of the last bytes of a text, if what fewer cost is known, and what a byte without a
-- number costs at each position
abbrev pub step_at : Tree → (ℕ → ℕ) → List ℕ → List ℕ → ℕ → Step
step_at tree unknown text costs left = best_of (unknown (length text - left)) (take left costs) (front tree (drop (length text - left) text))

-- the cost of no bytes is 0, and that of each further number of bytes is that of the best step over them
pub record AreCostsOver (tree : Tree) (unknown : ℕ → ℕ) (text costs : List ℕ) : Type 0 where
  pub begin : cost_at costs 0 ≡ 0
  pub best : (left : ℕ) → 0 < left → left < length costs → cost_at costs left ≡ (step_at tree unknown text costs left).cost

-- what the last bytes of a text cost: none, one, and so on up to all
abbrev pub AreCosts : Tree → (ℕ → ℕ) → List ℕ → List ℕ → Type 0
AreCosts tree unknown text costs = (length costs ≡ length text + 1) × AreCostsOver tree unknown text costs

-- what a byte says of a step: 255 nothing, 0 that it goes over one byte without a number, and else how many bytes its
-- key has, whose number isn't negative
abbrev pub IsMark : Step → ℕ → Type 0
IsMark step mark = (mark ≡ 255) ⊎ MatchOption step.value (mark ≡ 0) (λ v. (mark ≡ step.len) × (v ≡ pos (unsigned_abs v)) × (unsigned_abs v < 2 ^ 31))

-- the byte that says which step over so many of the last bytes is the best
abbrev pub mark_at : List ℕ → ℕ → ℕ
mark_at marks left = slice_index_or marks left 0

-- there is such a byte (`IsMark`) for each number of bytes so far
abbrev pub AreMarksOver : Tree → (ℕ → ℕ) → List ℕ → List ℕ → List ℕ → Type 0
AreMarksOver tree unknown text costs marks = (left : ℕ) → 0 < left → left < length marks → IsMark (step_at tree unknown text costs left) (mark_at marks left)

-- there is such a byte (`IsMark`) for each number of bytes up to all
abbrev pub AreMarks : Tree → (ℕ → ℕ) → List ℕ → List ℕ → List ℕ → Type 0
AreMarks tree unknown text costs marks = (length marks ≡ length text + 1) × AreMarksOver tree unknown text costs marks

-- the tokens along steps from a position on, if so many bytes are left, of which the first ones belong to the token
-- before
abbrev pub cut_along : (ℕ → Step) → ℕ → ℕ → ℕ → List Token
cut_along steps taken place zero = []
cut_along steps (suc taken) place (suc left) = cut_along steps taken (place + 1) left
cut_along steps zero place (suc left) =
    (place, (steps (suc left)).len, (steps (suc left)).value) ∷ cut_along steps ((steps (suc left)).len - 1) (place + 1) left

-- the tokens along the best steps over a text, if what its last bytes cost is known
abbrev pub best_cut : Tree → (ℕ → ℕ) → List ℕ → List ℕ → List Token
best_cut tree unknown text costs = cut_along (step_at tree unknown text costs) 0 0 (length text)

-- the tokens along the best steps over a text, by what its last bytes cost
pub record IsFoundBy (tree : Tree) (unknown : ℕ → ℕ) (text : List ℕ) (tokens : List Token) : Type 0 where
  pub costs : List ℕ
  pub are : AreCosts tree unknown text costs
  pub along : tokens ≡ best_cut tree unknown text costs
