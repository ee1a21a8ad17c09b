-- How many blocks a search for places has tried.
use Rattle.std.specs.Prelude.{◌≡◌, ℕ, ◌≤◌, List, length}
use Rattle.cedar_slots.specs.Blocks.{BlockFields, counts_at}
use Rattle.cedar_slots.specs.Ring.{occurs}

-- all blocks but n at most count what they counted before
abbrev pub TriesAtMost : ℕ → BlockFields → BlockFields → Type 0
TriesAtMost n before after = (tried : List ℕ) × (length tried ≤ n) × ((b : ℕ) → occurs b tried ≡ 0 → counts_at after.records b ≡ counts_at before.records b)
