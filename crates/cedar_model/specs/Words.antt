-- The words that the contracts of this crate cite, from one place.
pub use Rattle.cedar_model.specs.Edit.Packing.{count_held}
pub use Rattle.cedar_model.specs.Meaning.Laws.{FullBlocksCount, OneTreeHoldsAsMany, SlotsHaveOnePath}
pub use Rattle.cedar_model.specs.Meaning.Marks.{HasMark, MarkedAt, marks}
pub use Rattle.cedar_model.specs.Meaning.StandsFor.{HoldsTree}
pub use Rattle.cedar_model.specs.Meaning.WellFormed.{cells_in, IsWellFormed, tree_of, tree_slots}
pub use Rattle.cedar_model.specs.Table.Cells.{Cells, is_held}
pub use Rattle.cedar_model.specs.Table.Layouts.{default_layout, layout_byte, LayoutKind}
pub use Rattle.cedar_model.specs.Table.Layouts.{reading, reduced_layout}
pub use Rattle.cedar_model.specs.Table.TableFields.{Fields, size_of}
pub use Rattle.cedar_model.specs.declared.layout.Stored.TheVariants.{AtBase, Nothing}
pub use Rattle.cedar_slots.specs.Ring.{occurs}
pub use Rattle.cedar_tree.specs.Queries.{prefixes, slots_of_tree, walk}
pub use Rattle.cedar_tree.specs.Tree.{Forest}
