-- The words of clauses, from one place.
pub use Rattle.cedar_slots.specs.Blocks.{block_at, counts_at, fresh_counts, HasLists, head_of}
pub use Rattle.cedar_slots.specs.Blocks.{KeepsCounts, KeepsLinks, kind_of, linked_blocks, ListRings}
pub use Rattle.cedar_slots.specs.Blocks.{next_at, Popped, prev_at, PutsFirst, SameFrom, Sized}
pub use Rattle.cedar_slots.specs.Counting.{SetsCounts}
pub use Rattle.cedar_slots.specs.Places.{AddsBlock, AddsNeededBlock, FreesSlot, Grown, IsBase}
pub use Rattle.cedar_slots.specs.Places.{IsFreePlace, IsNewPlaces, IsOpenBlock, IsPowerOfTwo}
pub use Rattle.cedar_slots.specs.Places.{IsSlotLimit, IsStart, KeepsOrAdds, MayRefuse, NoneFree}
pub use Rattle.cedar_slots.specs.Places.{reject_at, Rejects, room_for_one, SameSlots, Shaped, Sound}
pub use Rattle.cedar_slots.specs.Places.{TakesSlot, Within}
pub use Rattle.cedar_slots.specs.Ring.{occurs}
pub use Rattle.cedar_slots.specs.Slots.{AllFree, base_at, blank_info, check_at, given_after}
pub use Rattle.cedar_slots.specs.Slots.{given_alone, is_free, node_record_at}
pub use Rattle.cedar_slots.specs.Slots.{nodes_after_link, nodes_after_take, SlotLink}
pub use Rattle.cedar_slots.specs.Tried.{TriesAtMost}
pub use Rattle.cedar_slots.specs.Views.{blocks_of, places_of, slots_of}
pub use Rattle.cedar_slots.specs.declared.blocks.BlockType.{BlockType}
pub use Rattle.std.specs.Int.{int_max}
pub use Rattle.std.specs.List.{range_with_len}
