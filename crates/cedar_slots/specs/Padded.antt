-- Lists of which only a front is in memory.
use Rattle.std.specs.Prelude.{ℕ, List, ◌++◌, ◌-◌, length, replicate}

-- all items, how many of them are in memory, and for how many there is room
pub record Items (T : Type 0) : Type 0 where
  pub items : List T
  pub used : ℕ
  pub room : ℕ

-- a list with blanks behind it up to a length
abbrev pub with_blanks : {T : Type 0} → T → ℕ → List T → List T
with_blanks blank len items = items ++ replicate (len - length items) blank
