-- Why a dictionary has no room for more blocks, and how many of them a search tries.
use Rattle.std.specs.Prelude.{◌≡◌, ℕ, ◌+◌, ◌*◌, ◌<◌, ◌≤◌}
use Rattle.cedarwood.specs.Dictionary.{Dictionary}
use Rattle.cedarwood.specs.declared.error.CedarError.{CedarError}
use Rattle.cedarwood.specs.declared.error.CedarError.TheVariants.{Memory, SlotLimit}

-- why there is no room for n more blocks: memory, if the slots have to double and may; slots, if there may not be so
-- many
abbrev pub LacksRoom : ℕ → Dictionary → ℕ → CedarError → Type 0
LacksRoom slots d n Memory = (d.capacity < d.size + 256 * n) × (d.size + 256 * n ≤ slots)
LacksRoom slots d n SlotLimit = slots < d.size + 256 * n
LacksRoom slots d n _ = ⊥

-- one search tries at most n blocks, and all else is as before
abbrev pub SetsSearchLimit : Dictionary → Dictionary → ℕ → Type 0
SetsSearchLimit before after n = after ≡ record before { search_limit = n }
