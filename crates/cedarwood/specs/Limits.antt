-- How many slots a dictionary may have, and how much memory a load may ask for.
use Rattle.std.specs.Prelude.{◌≢◌, ℕ}
use Rattle.cedar_slots.specs.Places.{IsSlotLimit}

-- the greatest limit of slots, 2^30, which is that of `Cedar` and `ReducedCedar`
abbrev pub most_slots : ℕ
most_slots = 1073741824

-- a number of slots that a call takes as the limit: `most_slots`, of which a caller says nothing, or else an
-- `IsSlotLimit`
abbrev pub IsLimit : ℕ → Type 0
IsLimit slots = slots ≢ most_slots → IsSlotLimit slots

-- how many bytes a load may allocate if no other limit is given: 536870912
abbrev pub default_load_limit : ℕ
default_load_limit = 536870912
