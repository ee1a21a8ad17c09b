-- What a cut of least cost writes into a buffer.
use Rattle.std.specs.Prelude.{◌≡◌, ℕ, ◌<◌, ◌≤◌, ◌^◌, Bool, true, false, List}
use Rattle.std.specs.Prelude.{◌++◌, length, map, drop}
use Rattle.cedarwood.specs.Tree.{Tree}
use Rattle.cedar_words.specs.Words.{character_price, IsAheadCapped, IsCheapestBy}
use Rattle.cedar_words.specs.Words.{IsCut, IsLeastCapped, Token}
use Rattle.cedar_c.specs.Scans.{found_token}
use Rattle.cedar_c.specs.declared.scans.Found.{Found}

-- what a byte without a number costs at each position of a text: the same at all, or so that a character costs once
abbrev pub prices : Bool → ℕ → List ℕ → ℕ → ℕ
prices false unknown text = λ _. unknown
prices true unknown text = character_price unknown text

-- these tokens are a cut of the text that costs the least
pub record IsLeastCut (tree : Tree) (unknown : ℕ → ℕ) (text : List ℕ) (tokens : List Token) : Type 0 where
  pub cut : IsCut tree text tokens
  -- no cut of a text of fewer than 2 ^ 32 bytes costs less, and this one comes first among those that cost as little
  pub least : length text < 2 ^ 32 → IsCheapestBy tree unknown text tokens
  -- no cut of any text costs less if sums above 2 ^ 64 - 1 count as 2 ^ 64 - 1, and this one comes first among those
  -- that cost as little
  pub capped : IsLeastCapped tree unknown text tokens
  pub ahead : IsAheadCapped tree unknown text tokens

-- the first elements of a buffer have the tokens of such a cut (`IsLeastCut`), the others what they had; `needed` is
-- how many tokens there are
abbrev pub WritesLeastCut : Tree → (ℕ → ℕ) → List ℕ → List Found → List Found → ℕ → Type 0
WritesLeastCut tree unknown text before after needed = (tokens : List Token) × IsLeastCut tree unknown text tokens
    × (needed ≡ length tokens) × (needed ≤ length before) × (after ≡ map found_token tokens ++ drop needed before)

-- `needed` is how many tokens such a cut (`IsLeastCut`) has, and there are fewer elements
abbrev pub LacksRoomForCut : Tree → (ℕ → ℕ) → List ℕ → List Found → ℕ → Type 0
LacksRoomForCut tree unknown text places needed =
    (tokens : List Token) × IsLeastCut tree unknown text tokens × (needed ≡ length tokens) × (length places < needed)
