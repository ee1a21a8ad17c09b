-- Cuts of a text into keys and unknown runs, and what they cost by a model.
use Rattle.std.specs.Prelude.{◌≡◌, ℕ, ◌+◌, ◌-◌, ◌^◌, ◌<◌, ◌≤◌, ◌⊎◌, max, min, true, ℤ, List, [], ◌∷◌}
use Rattle.std.specs.Prelude.{length, drop, take, Option, Some, None, MatchOption, IsCharBoundary}
use Rattle.cedarwood.specs.Tree.{Tree, number_at}
use Rattle.cedarwood.specs.Queries.{front}
use Rattle.cedar_words.specs.Cuts.{IsAhead}
use Rattle.cedar_words.specs.Tokens.{Token}
use Rattle.cedar_words.specs.declared.models.UnknownRun.{UnknownRun}

-- how many bytes an unknown run has where so many are left: as many as it says, but one at least and no more than are left
abbrev pub run_len : ℕ → UnknownRun → ℕ
run_len left run = max 1 (min run.len left)

-- an unknown run may begin some bytes: it may stand beside keys, or no key begins them
abbrev pub MayRun : Tree → List ℕ → UnknownRun → Type 0
MayRun tree rest run = (run.beside_keys ≡ true) ⊎ (front tree rest ≡ [])

-- a token at the beginning of some bytes: a key with its number, or the unknown run there, which has none
abbrev pub IsPieceBy : Tree → UnknownRun → List ℕ → Token → Type 0
IsPieceBy tree run rest t = MatchOption t.2 ((t.1 ≡ run_len (length rest) run) × MayRun tree rest run) (λ v. number_at tree (take t.1 rest) ≡ Some v)

-- from a position to the end of a text each token begins where the one before it ended, has one byte or more, and is a key with its
-- number, or the unknown run there
abbrev pub IsCutFromBy : Tree → (ℕ → UnknownRun) → List ℕ → ℕ → List Token → Type 0
IsCutFromBy tree run text place [] = place ≡ length text
IsCutFromBy tree run text place (t ∷ tokens) =
    (t.0 ≡ place) × (0 < t.1) × IsPieceBy tree (run place) (drop place text) t × IsCutFromBy tree run text (place + t.1) tokens

-- the tokens are a cut of the text
abbrev pub IsCutBy : Tree → (ℕ → UnknownRun) → List ℕ → List Token → Type 0
IsCutBy tree run text tokens = IsCutFromBy tree run text 0 tokens

-- what a token costs: a key what its number does, and an unknown run what is said of it
abbrev pub price_by : (ℤ → ℕ) → ℕ → Option ℤ → ℕ
price_by key unknown None = unknown
price_by key unknown (Some v) = key v

-- what some tokens cost together
abbrev pub cost_with : (ℤ → ℕ) → (ℕ → UnknownRun) → List Token → ℕ
cost_with key run [] = 0
cost_with key run (t ∷ tokens) = price_by key (run t.0).cost t.2 + cost_with key run tokens

-- no cut of a text from a position on costs less than these tokens, where sums above 2 ^ 64 - 1 count as 2 ^ 64 - 1
abbrev pub IsLeastFrom : Tree → (ℤ → ℕ) → (ℕ → UnknownRun) → List ℕ → ℕ → List Token → Type 0
IsLeastFrom tree key run text place tokens =
    (other : List Token) → IsCutFromBy tree run text place other → min (cost_with key run tokens) (2 ^ 64 - 1) ≤ cost_with key run other

-- from each of some tokens on, no cut of the rest of the text costs less (`IsLeastFrom`)
abbrev pub IsLeastThroughout : Tree → (ℤ → ℕ) → (ℕ → UnknownRun) → List ℕ → ℕ → List Token → Type 0
IsLeastThroughout tree key run text place [] = Unit {0}
IsLeastThroughout tree key run text place (t ∷ tokens) =
    IsLeastFrom tree key run text place (t ∷ tokens) × IsLeastThroughout tree key run text (place + t.1) tokens

-- The best cut of a text by a model. One rule picks it in texts of any length: from each of its tokens on it costs the least, as far as sums
-- count, and of the cuts of which that is true it is the one with the longer token where lengths first differ, and with a key rather than
-- an unknown run. Of a cut that costs less than 2 ^ 64 that is to say that it is the cheapest, and ahead of those that cost as little.
pub record IsBestCut (tree : Tree) (key : ℤ → ℕ) (run : ℕ → UnknownRun) (text : List ℕ) (tokens : List Token) : Type 0 where
  pub cut : IsCutBy tree run text tokens
  pub least : IsLeastFrom tree key run text 0 tokens
  pub ahead : (other : List Token) → IsCutBy tree run text other → cost_with key run other ≤ min (cost_with key run tokens) (2 ^ 64 - 1) → IsAhead tokens other
  pub throughout : IsLeastThroughout tree key run text 0 tokens
  pub first : (other : List Token) → IsCutBy tree run text other → IsLeastThroughout tree key run text 0 other → IsAhead tokens other

-- a text has at most one best cut
abbrev pub HasOneBestCut : Tree → (ℤ → ℕ) → (ℕ → UnknownRun) → List ℕ → Type 0
HasOneBestCut tree key run text = (one other : List Token) → IsBestCut tree key run text one → IsBestCut tree key run text other → one ≡ other

-- a cut that costs no more than any, and is ahead of each that costs no more
pub record IsCheapestByModel (tree : Tree) (key : ℤ → ℕ) (run : ℕ → UnknownRun) (text : List ℕ) (tokens : List Token) : Type 0 where
  pub cut : IsCutBy tree run text tokens
  pub least : (other : List Token) → IsCutBy tree run text other → cost_with key run tokens ≤ cost_with key run other
  pub ahead : (other : List Token) → IsCutBy tree run text other → cost_with key run other ≤ cost_with key run tokens → IsAhead tokens other

-- runs that begin where a character does end where one does, or with the text
abbrev pub RunsKeepCharacters : (ℕ → UnknownRun) → List ℕ → Type 0
RunsKeepCharacters run text = (place : ℕ) → place < length text → IsCharBoundary text place → IsCharBoundary text (place + run_len (length text - place) (run place))
