-- What a change of a block's counts does.
use Rattle.std.specs.Prelude.{◌≡◌, ℕ, length}
use Rattle.cedar_slots.specs.Blocks.{counts_at, HasLists, SameFrom}
use Rattle.cedar_slots.specs.declared.blocks.Blocks.{Blocks}
use Rattle.cedar_slots.specs.declared.blocks.Counts.{Counts}
use Rattle.cedar_slots.specs.Views.{blocks_of}

-- block b has these counts and is in the list that they name, and nothing else has changed
pub record SetsCounts {A : Type 0} (before after : Blocks A) (b : ℕ) (counts : Counts) : Type 0 where
  pub lists : HasLists (blocks_of after)
  pub made : counts_at after.records.items b ≡ counts
  pub others : (c : ℕ) → (c ≡ b → ⊥) → counts_at after.records.items c ≡ counts_at before.records.items c
  pub idle : SameFrom before.active before.records.items after.records.items
  pub len : length after.records.items ≡ length before.records.items
  pub used : after.records.used ≡ before.records.used
  pub active : after.active ≡ before.active
  pub max_trial : after.max_trial ≡ before.max_trial
