-- What the parts of a table hold, without what only memory has.
use Rattle.cedar_slots.specs.declared.slots.Slots.{Slots}
use Rattle.cedar_slots.specs.declared.blocks.Blocks.{Blocks}
use Rattle.cedar_slots.specs.declared.places.Places.{Places}
use Rattle.cedar_slots.specs.Slots.{SlotFields}
use Rattle.cedar_slots.specs.Blocks.{BlockFields}
use Rattle.cedar_slots.specs.Places.{PlaceFields}

-- the records of all slots, blank ones among them
abbrev pub slots_of : {A : _} → Slots A → SlotFields
slots_of slots = record { nodes = slots.nodes.items; infos = slots.infos.items }

-- the records of all blocks, blank ones among them, and their lists
abbrev pub blocks_of : {A : _} → Blocks A → BlockFields
blocks_of blocks = record {
  records = blocks.records.items;
  full_head = blocks.full_head;
  closed_head = blocks.closed_head;
  open_head = blocks.open_head;
  active = blocks.active;
  max_trial = blocks.max_trial;
}

-- the records of all slots and blocks, and the reject values
abbrev pub places_of : {A : _} → Places A → PlaceFields
places_of places = record {
  slots = slots_of places.slots;
  blocks = blocks_of places.blocks;
  reject = places.reject.items;
}
