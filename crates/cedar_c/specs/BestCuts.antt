-- What a cut by costs beside values writes into a buffer.
use Rattle.std.specs.Prelude.{◌≡◌, ℕ, ◌<◌, ◌≤◌, nat_le, nat_eq, Bool, true, false, ◌&&◌, if◌then◌else◌, ℤ}
use Rattle.std.specs.Prelude.{List, [], ◌∷◌, ◌++◌, length, map, drop, Option, Some, None}
use Rattle.cedarwood.specs.Tree.{Tree}
use Rattle.cedar_words.specs.Runs.{class_run, cost_in_table, only_without_key}
use Rattle.cedar_words.specs.Words.{IsBestCut, Token}
use Rattle.cedar_words.specs.declared.models.UnknownRun.{UnknownRun}
use Rattle.cedar_c.specs.Scans.{found_token}
use Rattle.cedar_c.specs.declared.models.CharacterRange.{CharacterRange}
use Rattle.cedar_c.specs.declared.models.Costs.{Costs}
use Rattle.cedar_c.specs.declared.scans.Found.{Found}

-- the kind of a character: that of the first range that has its number, if one has
abbrev pub kind_in : List CharacterRange → ℕ → Option ℕ
kind_in [] code = None
kind_in (range ∷ ranges) code = if nat_le range.first code && nat_le code range.last then Some range.kind else kind_in ranges code

-- two kinds are known, and the same
abbrev pub is_same_kind : Option ℕ → Option ℕ → Bool
is_same_kind None other = false
is_same_kind (Some kind) None = false
is_same_kind (Some kind) (Some other) = nat_eq kind other

-- two characters are of one kind
abbrev pub are_of_one_kind : List CharacterRange → ℕ → ℕ → Bool
are_of_one_kind ranges first other = is_same_kind (kind_in ranges first) (kind_in ranges other)

-- the characters of one kind at a position, so many at most, beside keys or only where none begins
abbrev pub kind_run : List CharacterRange → Bool → ℕ → ℕ → List ℕ → ℕ → UnknownRun
kind_run ranges true most cost text = class_run (are_of_one_kind ranges) most cost text
kind_run ranges false most cost text = λ place. only_without_key (class_run (are_of_one_kind ranges) most cost text place)

-- what keys cost, by their values
abbrev pub key_costs : Costs → ℤ → ℕ
key_costs costs = cost_in_table costs.keys.now costs.beyond

-- the runs of characters of one kind that may stand in a text, by their positions
abbrev pub unknown_runs : Costs → List ℕ → ℕ → UnknownRun
unknown_runs costs text = kind_run costs.kinds.now costs.beside_keys costs.most costs.unknown text

-- the first elements of a buffer have the tokens of the best cut by a model, the others what they had; `needed` is how many tokens there
-- are
abbrev pub WritesBestCut : Tree → (ℤ → ℕ) → (ℕ → UnknownRun) → List ℕ → List Found → List Found → ℕ → Type 0
WritesBestCut tree key run text before after needed = (tokens : List Token) × IsBestCut tree key run text tokens
    × (needed ≡ length tokens) × (needed ≤ length before) × (after ≡ map found_token tokens ++ drop needed before)

-- `needed` is how many tokens the best cut by a model has, and there are fewer elements
abbrev pub LacksRoomForBestCut : Tree → (ℤ → ℕ) → (ℕ → UnknownRun) → List ℕ → List Found → ℕ → Type 0
LacksRoomForBestCut tree key run text places needed =
    (tokens : List Token) × IsBestCut tree key run text tokens × (needed ≡ length tokens) × (length places < needed)
