-- The words of clauses, from one place.
pub use Rattle.cedar_model.specs.Edit.Asked.{MayClaim}
pub use Rattle.cedar_model.specs.Edit.NodeEdits.{LinkedBehind, LinkedChild, LinksIn, SetsChild}
pub use Rattle.cedar_model.specs.Edit.NodeEdits.{SetsSibling}
pub use Rattle.cedar_model.specs.Edit.Own.{FieldSet}
pub use Rattle.cedar_model.specs.Edit.Steps.{blocks_after, EditsNode, HasNode, MakesBlocks}
pub use Rattle.cedar_model.specs.Edit.Steps.{MakesRoom}
pub use Rattle.cedar_model.specs.Meaning.Family.{base_of, below, Links, owned_slots}
pub use Rattle.cedar_model.specs.Meaning.Marks.{marks}
pub use Rattle.cedar_model.specs.Meaning.StandsFor.{Stands}
pub use Rattle.cedar_model.specs.Meaning.WellFormed.{HasNoPlace, is_value, IsWellFormed, tree_of}
pub use Rattle.cedar_model.specs.Relocation.Renaming.{ChecksAt, IsNode, OwnsNothing, Rebased}
pub use Rattle.cedar_model.specs.Relocation.Reserved.{cells_without}
pub use Rattle.cedar_model.specs.Table.Cells.{Gives, HasPlaces, Held, InfoWritten, is_held, IsPlace}
pub use Rattle.cedar_model.specs.Table.Cells.{NodeWritten, SameHeld, Takes}
pub use Rattle.cedar_model.specs.Table.Layouts.{reading, reduced_layout}
pub use Rattle.cedar_model.specs.Table.TableFields.{capacity_of, SameFrame, SameSettings, size_of}
pub use Rattle.cedar_model.specs.Table.TableFields.{with_count}
pub use Rattle.cedar_model.specs.declared.layout.Stored.TheVariants.{Nothing, OwnNumber}
pub use Rattle.cedar_slots.specs.Blocks.{blank_block, block_at}
pub use Rattle.cedar_slots.specs.Padded.{with_blanks}
pub use Rattle.cedar_slots.specs.Places.{AddsBlock, Grown, IsNewPlaces, IsSlotLimit, IsTable}
pub use Rattle.cedar_slots.specs.Places.{KeepsOrAdds, MayRefuse, reject_at, SameSlots, Shaped}
pub use Rattle.cedar_slots.specs.Slots.{blank_info, blank_node, check_at}
pub use Rattle.cedar_slots.specs.Views.{places_of}
pub use Rattle.cedar_slots.specs.declared.shortage.Shortage.TheVariants.{Memory}
pub use Rattle.cedar_table.specs.Table.Nodes.{FindsChild, IsEmptyAt, IsNodeAt, OfFamily, OfNode}
pub use Rattle.cedar_table.specs.Table.Parts.{parts_fields}
pub use Rattle.cedar_table.specs.Table.Room.{LacksBlocks, MakesNeededBlock}
pub use Rattle.cedar_table.specs.Table.Views.{cells, fields}
pub use Rattle.cedar_model.specs.Queries.{exact}
pub use Rattle.cedar_model.specs.Tree.{empty_tree, Forest, Tree}
pub use Rattle.std.specs.List.{range_with_len}
