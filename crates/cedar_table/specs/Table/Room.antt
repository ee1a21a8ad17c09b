-- Which blocks a table makes, and why it has no room for more.
use Rattle.std.specs.Prelude.{ℕ, ◌+◌, ◌*◌, ◌<◌, ◌≤◌}
use Rattle.cedar_model.specs.Meaning.WellFormed.{HasNoPlace}
use Rattle.cedar_model.specs.Table.TableFields.{capacity_of, Fields, size_of}
use Rattle.cedar_slots.specs.Places.{AddsBlock}
use Rattle.cedar_slots.specs.declared.shortage.Shortage.{Shortage}
use Rattle.cedar_slots.specs.declared.shortage.Shortage.TheVariants.{Memory, SlotLimit}

-- what a table that may have `slots` slots lacks if room for n more blocks is refused: memory only if its lists have
-- to grow and may, slots only if there may not be so many
abbrev pub LacksBlocks : Fields → ℕ → ℕ → Shortage → Type 0
LacksBlocks T slots n Memory = (capacity_of T < size_of T + 256 * n) × (size_of T + 256 * n ≤ slots)
LacksBlocks T slots n SlotLimit = slots < size_of T + 256 * n

-- the block b has come into use, where no slot outside block 0 was free
abbrev pub MakesNeededBlock : Fields → Fields → ℕ → Type 0
MakesNeededBlock before after b = HasNoPlace before × AddsBlock before.places after.places b
