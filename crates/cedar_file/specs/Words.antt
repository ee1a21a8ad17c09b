-- The words that the contracts of this crate cite, from one place.
pub use Rattle.cedar_file.specs.Loading.{LoadsBy}
pub use Rattle.cedar_file.specs.PlaceChecks.{BlankBlocks, BlankSlots, CountsInRange, free_count}
pub use Rattle.cedar_file.specs.PlaceChecks.{free_here, HasBlankLabels, HasList}
pub use Rattle.cedar_file.specs.PlaceChecks.{HasRing, in_ring, ring_count, StepsFrom}
pub use Rattle.cedar_file.specs.TreeWalk.{AtBased, AtNode, AtOwn, AtValued, ComesBackIn}
pub use Rattle.cedar_file.specs.TreeWalk.{GoesDown, GoesOn, GoesUp}
pub use Rattle.cedar_file.specs.TreeWalk.{LooksLikeRoot, MeetsNode, StepsDown, StepsUp}
pub use Rattle.cedar_file.specs.TreeWalk.{walk_start}
pub use Rattle.cedar_format.specs.Format.{CountsWithin, IsFile, need, trial_refusal}
pub use Rattle.cedar_format.specs.Reading.{IsIo, IsLack, TellsBreaks}
pub use Rattle.cedar_format.specs.Refusal.{CorruptData, refusal, refusal_of}
pub use Rattle.cedar_format.specs.Tables.{file_fields, FitsTable, header_of, slots_listed}
pub use Rattle.cedar_format.specs.Tables.{table_bytes}
pub use Rattle.cedar_format.specs.WatchedDevice.{device_of, has_failed}
pub use Rattle.cedar_model.specs.Meaning.Family.{base_in, base_of}
pub use Rattle.cedar_model.specs.Meaning.WellFormed.{is_value, IsWellFormed}
pub use Rattle.cedar_model.specs.Table.Cells.{is_held}
pub use Rattle.cedar_model.specs.Table.Layouts.{layout_byte, reading}
pub use Rattle.cedar_model.specs.Table.TableFields.{capacity_of, size_of}
pub use Rattle.cedar_model.specs.declared.layout.Stored.TheVariants.{AtBase, OwnNumber}
pub use Rattle.cedar_slots.specs.Blocks.{block_at, BlockLink, counts_at, HasLists, Sized}
pub use Rattle.cedar_slots.specs.Places.{FreeBlock, HasFree, IsPowerOfTwo, IsSlotLimit, IsTable}
pub use Rattle.cedar_slots.specs.Places.{Pruned, reject_at, Rejects, Shaped, Sound}
pub use Rattle.cedar_slots.specs.Slots.{info_at, is_free, node_record_at, SlotLink}
pub use Rattle.cedar_slots.specs.Views.{blocks_of, places_of, slots_of}
pub use Rattle.cedar_slots.specs.declared.blocks.BlockType.TheVariants.{Full}
pub use Rattle.cedar_table.specs.Table.Views.{cells, fields}
pub use Rattle.std.specs.Io.KnownBytes.{Appends}
pub use Rattle.std.specs.List.{range_with_len}
