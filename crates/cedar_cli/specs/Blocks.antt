-- How many blocks come into use.
use Rattle.std.specs.Prelude.{ℕ, ◌+◌, ◌≤◌}
use Rattle.cedarwood.specs.Dictionary.{Dictionary, Grows}

-- some blocks have come into use, and at most so many
abbrev pub GrowsWithin : ℕ → Dictionary → Dictionary → Type 0
GrowsWithin most before after = (n : ℕ) × (n ≤ most) × Grows n before after

-- some blocks have come into use, and at most as many as there are bytes, apart from those left
abbrev pub GrowsBefore : ℕ → ℕ → Dictionary → Dictionary → Type 0
GrowsBefore left bytes before after = (n : ℕ) × (n + left ≤ bytes) × Grows n before after
