-- The words of clauses, from one place.
pub use Rattle.cedar_bulk.specs.Asked.{IsUnfilled, WantsBase, WantsChain, WantsLabel}
pub use Rattle.cedar_bulk.specs.Asked.{WantsLabels, WantsNumber, WantsSlots}
pub use Rattle.cedar_bulk.specs.Packed.{count_crowded_forest, IsPacked, PacksNext, PacksSpan}
pub use Rattle.cedar_bulk.specs.Packed.{PacksTail, PacksTurn}
pub use Rattle.cedar_bulk.specs.Sorted.{entries_by, Fills, GetsBase, GetsLabels, GetsNumber}
pub use Rattle.cedar_bulk.specs.Sorted.{GoesLast, run, slot_labels}
pub use Rattle.cedar_bulk.specs.SortedMarks.{KeepsOwn, SortedMarks}
pub use Rattle.cedar_bulk.specs.Spans.{Filling, first_label, first_number, GoesOnAlike, IsDeeper}
pub use Rattle.cedar_bulk.specs.Spans.{IsTreeOfSpan, Lists, Part, part_of, parts_of}
pub use Rattle.cedar_bulk.specs.Steps.{AddsChildren, AddsSpans, AppendsLeaf, based_behind}
pub use Rattle.cedar_bulk.specs.Steps.{CoversChildren, EndsFilling, FillsSpan, FillsTail}
pub use Rattle.cedar_bulk.specs.Steps.{HasBlocksFor, KeepsOwnOf, LacksMemoryOr, OfTree, StaysBare}
pub use Rattle.cedar_bulk.specs.Steps.{StaysOwn, TurnsNext, WantsMore, WantsMoreThan}
pub use Rattle.cedar_model.specs.Edit.NodeEdits.{IsAt, LinksIn}
pub use Rattle.cedar_model.specs.Edit.Packing.{MakesIfFull, Packs, TakesOne}
pub use Rattle.cedar_model.specs.Edit.Steps.{MakesBlocks, SameModes}
pub use Rattle.cedar_model.specs.Meaning.Family.{base_of, below}
pub use Rattle.cedar_model.specs.Meaning.Marks.{marks}
pub use Rattle.cedar_model.specs.Meaning.StandsFor.{HoldsTree, labels}
pub use Rattle.cedar_model.specs.Meaning.WellFormed.{is_value, IsWellFormed, tree_of}
pub use Rattle.cedar_model.specs.Table.Cells.{Held}
pub use Rattle.cedar_model.specs.Table.TableFields.{capacity_of, SameFrame, SameSettings, size_of}
pub use Rattle.cedar_model.specs.declared.layout.Stored.TheVariants.{AtBase}
pub use Rattle.cedar_slots.specs.Places.{IsSlotLimit, IsTable, MayRefuse}
pub use Rattle.cedar_slots.specs.declared.shortage.Shortage.TheVariants.{SlotLimit}
pub use Rattle.cedar_table.specs.Table.Views.{cells, fields}
pub use Rattle.cedar_model.specs.Laws.{ArePathsAscending, ArePathsKeys}
pub use Rattle.cedar_model.specs.Queries.{asc, prefixes, prefixes_forest}
pub use Rattle.cedar_model.specs.Tree.{empty_tree, Forest, none, Tree}
pub use Rattle.std.specs.List.{AllByRecursion}
