-- Cuts of a text of least cost, and the one that a tree and a model decide.
use Rattle.std.specs.Prelude.{◌^◌, ◌-◌, ◌<◌, ℕ, zero, suc, ℤ, unsigned_abs, List, [], ◌∷◌, ◌++◌}
use Rattle.std.specs.Prelude.{length, drop, slice_index_or, take}
use Rattle.cedar_words.specs.Words.{best_by, best_cut_by, best_ways, byte_run, front, IsAheadCapped}
use Rattle.cedar_words.specs.Words.{IsBestCut, IsCheapestBy, IsCut, IsLeastCapped, no_way, Token}
use Rattle.cedar_words.specs.Words.{Tree, ways_along}
use Rattle.cedar_words.specs.declared.models.UnknownRun.{UnknownRun}

-- a cut that costs no more than any and is ahead of each that costs as little, where a key costs its number and a byte without one what is
-- said of its position, and sums above 2 ^ 64 - 1 count as 2 ^ 64 - 1. By that model it is the best cut
pub record IsCheapCut (tree : Tree) (price : ℕ → ℕ) (text : List ℕ) (tokens : List Token) : Type 0 where
  pub cut : IsCut tree text tokens
  pub least : length text < 2 ^ 32 → IsCheapestBy tree price text tokens
  pub capped : IsLeastCapped tree price text tokens
  pub ahead : IsAheadCapped tree price text tokens
  pub best : IsBestCut tree unsigned_abs (λ place. byte_run (price place)) text tokens

-- the run at a position of a table, or one byte that costs this if it has none there
abbrev pub run_in_table : List UnknownRun → ℕ → ℕ → UnknownRun
run_in_table runs beyond place = slice_index_or runs place (byte_run beyond)

-- by a model, what the last bytes of a text cost, none of them, one, and so on up to so many
abbrev pub costs_by_model : Tree → (ℤ → ℕ) → (ℕ → UnknownRun) → List ℕ → ℕ → List ℕ
costs_by_model tree key run text zero = 0 ∷ []
costs_by_model tree key run text (suc left) =
    let costs = costs_by_model tree key run text left in
    costs ++ (best_by key costs (run (length text - suc left)) (front tree (drop (length text - suc left) text))).cost ∷ []

-- the tokens of the best cut by a model
abbrev pub model_cut_of : Tree → (ℤ → ℕ) → (ℕ → UnknownRun) → List ℕ → List Token
model_cut_of tree key run text = best_cut_by tree key run text (costs_by_model tree key run text (length text))

-- a list for none of the last bytes of a text, and for one more and one more of them what comes of the lists before
abbrev pub lists_by : {W : Type 0} → List W → (List (List W) → ℕ → List W) → ℕ → List (List W)
lists_by begin more zero = begin ∷ []
lists_by begin more (suc left) = let table = lists_by begin more left in table ++ more table left ∷ []

-- the tokens of the best cuts by a model, so many at most: those along the best ways over none of the last bytes of a text, one, and so on
abbrev pub model_cuts_of : ℕ → Tree → (ℤ → ℕ) → (ℕ → UnknownRun) → List ℕ → List (List Token)
model_cuts_of most tree key run text =
    ways_along
    (lists_by (take most (no_way ∷ []))
    (λ table left. best_ways most key table (run (length text - suc left)) (front tree (drop (length text - suc left) text)))
    (length text))
    (length text)
