-- The fields of a table.
use Rattle.std.specs.Prelude.{◌≡◌, ℕ, ◌*◌, Bool, length}
use Rattle.cedar_model.specs.Table.Layouts.{LayoutKind}
use Rattle.cedar_slots.specs.Places.{PlaceFields}

-- a table as a record: its layout, whether labels ascend (`ordered`), the number of keys (`entries`), and its slots,
-- blocks and reject values (`places`)
pub record Fields : Type 0 where
  pub layout : LayoutKind
  pub ordered : Bool
  pub entries : ℕ
  pub places : PlaceFields

-- the table with another number of keys
abbrev pub with_count : Fields → ℕ → Fields
with_count T entries = record { layout = T.layout; ordered = T.ordered; entries = entries; places = T.places }

-- how many slots are in use, free ones among them: 256 times the number of blocks in use
abbrev pub size_of : Fields → ℕ
size_of T = 256 * T.places.blocks.active

-- how many slots there are, in use or not: 256 times the number of blocks
abbrev pub capacity_of : Fields → ℕ
capacity_of T = 256 * length T.places.blocks.records

-- order, entries and `max_trial` are as before
pub record SameSettings (before after : Fields) : Type 0 where
  pub ordered : after.ordered ≡ before.ordered
  pub entries : after.entries ≡ before.entries
  pub max_trial : after.places.blocks.max_trial ≡ before.places.blocks.max_trial

-- as many slots are in use and there, and the settings are as before
pub record SameFrame (before after : Fields) : Type 0 where
  pub size : size_of after ≡ size_of before
  pub capacity : capacity_of after ≡ capacity_of before
  pub settings : SameSettings before after
