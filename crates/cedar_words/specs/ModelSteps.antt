-- How the best cut by a model is found: what the last bytes of a text cost, none of them, one, and so on, each by what fewer cost.
use Rattle.std.specs.Prelude.{◌≡◌, ℕ, ◌+◌, ◌-◌, ◌<◌, ◌⊎◌, nat_lt, if◌then◌else◌, false, ℤ, pos}
use Rattle.std.specs.Prelude.{List, [], ◌∷◌, length, drop, take, slice_index_or, Option, Some, None}
use Rattle.cedarwood.specs.Tree.{Tree}
use Rattle.cedarwood.specs.Queries.{front}
use Rattle.cedar_words.specs.Models.{run_len}
use Rattle.cedar_words.specs.Steps.{better_of, cost_at, cut_along, step_over}
use Rattle.cedar_words.specs.Tokens.{Token}
use Rattle.cedar_words.specs.declared.costs.Step.{Step}
use Rattle.cedar_words.specs.declared.cuts.Kept.{Kept}
use Rattle.cedar_words.specs.declared.models.UnknownRun.{UnknownRun}

-- the step over an unknown run, where it is known what fewer bytes cost
abbrev pub run_step : List ℕ → UnknownRun → Step
run_step later run = step_over later run.cost (run_len (length later) run) None

-- the step over a key that was found: its number, and one less than its bytes
abbrev pub priced_step : (ℤ → ℕ) → List ℕ → ℤ × ℕ → Step
priced_step key later found = step_over later (key found.0) (found.1 + 1) (Some found.0)

-- the best of a step and of those over some keys
abbrev pub best_priced : (ℤ → ℕ) → List ℕ → Step → List (ℤ × ℕ) → Step
best_priced key later best [] = best
best_priced key later best (found ∷ fronts) = best_priced key later (better_of best (priced_step key later found)) fronts

-- the better of a step over a key and one over an unknown run: the cheaper, of two that cost the same the longer, and the key if both go
-- over as many bytes
abbrev pub or_run : Step → Step → Step
or_run best run = if nat_lt best.cost run.cost then best else if nat_lt run.cost best.cost then run else if nat_lt best.len run.len then run else best

-- the better of a step over a key and an unknown run that may stand beside keys, or the step over the key
abbrev pub beside_run : List ℕ → UnknownRun → Step → Step
beside_run later run best = if run.beside_keys then or_run best (run_step later run) else best

-- the best of an unknown run and of some keys
abbrev pub best_by : (ℤ → ℕ) → List ℕ → UnknownRun → List (ℤ × ℕ) → Step
best_by key later run [] = run_step later run
best_by key later run (found ∷ fronts) = beside_run later run (best_priced key later (priced_step key later found) fronts)

-- the best step over so many of the last bytes of a text, where it is known what fewer cost
abbrev pub step_by : Tree → (ℤ → ℕ) → (ℕ → UnknownRun) → List ℕ → List ℕ → ℕ → Step
step_by tree key run text costs left = best_by key (take left costs) (run (length text - left)) (front tree (drop (length text - left) text))

-- the best step from a position of a text on
abbrev pub step_from : Tree → (ℤ → ℕ) → (ℕ → UnknownRun) → List ℕ → List ℕ → ℕ → Step
step_from tree key run text costs place = step_by tree key run text costs (length text - place)

-- no byte costs nothing, and each number more is what the best step over one byte more of the end of a text costs
pub record AreCostsUpTo (tree : Tree) (key : ℤ → ℕ) (run : ℕ → UnknownRun) (text costs : List ℕ) : Type 0 where
  pub begin : cost_at costs 0 ≡ 0
  pub best : (left : ℕ) → 0 < left → left < length costs → cost_at costs left ≡ (step_by tree key run text costs left).cost

-- what the last bytes of a text cost: none, one, and so on up to all
abbrev pub AreCostsBy : Tree → (ℤ → ℕ) → (ℕ → UnknownRun) → List ℕ → List ℕ → Type 0
AreCostsBy tree key run text costs = (length costs ≡ length text + 1) × AreCostsUpTo tree key run text costs

-- the number of the key that a kept step goes over, if it is one
abbrev pub kept_value : Kept → Option ℤ
kept_value kept = if kept.is_key then Some kept.value else None

-- what is kept of a step says how many bytes it goes over, and the number of its key if it is one; or it says nothing, by no bytes
abbrev pub TellsStep : Step → Kept → Type 0
TellsStep step kept = (kept.len ≡ 0) ⊎ ((step.len ≡ kept.len) × (step.value ≡ kept_value kept))

-- what says nothing of a step
abbrev pub no_kept : Kept
no_kept = record {
  len = 0;
  is_key = false;
  value = pos 0;
}

-- what is kept of the best step over so many of the last bytes
abbrev pub kept_at : List Kept → ℕ → Kept
kept_at kept left = slice_index_or kept left no_kept

-- what is kept for each number of bytes so far says the best step over as many of the last bytes (`TellsStep`)
abbrev pub AreKeptUpTo : Tree → (ℤ → ℕ) → (ℕ → UnknownRun) → List ℕ → List ℕ → List Kept → Type 0
AreKeptUpTo tree key run text costs kept = (left : ℕ) → 0 < left → left < length kept → TellsStep (step_by tree key run text costs left) (kept_at kept left)

-- what is kept says the best step over so many of a text's last bytes, for each number up to all
abbrev pub AreKeptBy : Tree → (ℤ → ℕ) → (ℕ → UnknownRun) → List ℕ → List ℕ → List Kept → Type 0
AreKeptBy tree key run text costs kept = (length kept ≡ length text + 1) × AreKeptUpTo tree key run text costs kept

-- the tokens that the best steps lead along over a text, where it is known what its last bytes cost
abbrev pub best_cut_by : Tree → (ℤ → ℕ) → (ℕ → UnknownRun) → List ℕ → List ℕ → List Token
best_cut_by tree key run text costs = cut_along (step_by tree key run text costs) 0 0 (length text)
