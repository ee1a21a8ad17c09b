-- Two automata side by side.
use Rattle.std.specs.Prelude.{ℕ}

-- the states of two after one byte more
abbrev pub both_after : {S R : Type 0} → (S → ℕ → S) → (R → ℕ → R) → S × R → ℕ → S × R
both_after f g state byte = (f state.0 byte, g state.1 byte)
