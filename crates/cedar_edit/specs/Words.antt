-- The words of clauses, from one place.
pub use Rattle.cedar_edit.specs.Asked.{AreTwoNodes, ExtendsLeaf, GoesToSlot, MayLoseLabel}
pub use Rattle.cedar_edit.specs.Asked.{MayLoseNumber, MayLoseOwn, MayMoveOwn, NumbersAlone}
pub use Rattle.cedar_edit.specs.Asked.{NumbersLeaf, NumbersReserved, PutsNumberAt, SeeksOwned}
pub use Rattle.cedar_edit.specs.Asked.{StepsOneOn, TakesFree, TakesNumber, TakesReserved}
pub use Rattle.cedar_edit.specs.Asked.{TakesAlone}
pub use Rattle.cedar_edit.specs.Changes.{AddsLeaf, cells_besides, ChainsRest, ComesBehind, IsInWay}
pub use Rattle.cedar_edit.specs.Changes.{LacksLoneNumber, LacksNumberSlot, MakesAtMost}
pub use Rattle.cedar_edit.specs.Changes.{MovesForLabel, MovesIn, MovesPrefixOut, OwnsNumberAlone}
pub use Rattle.cedar_edit.specs.Changes.{PutsInBase, PutsInMarks, PutsInSlot, PutsKey, RemovesNode}
pub use Rattle.cedar_edit.specs.Changes.{RenamesAround, TakesFreeSlot, TakesNewNode, TakesNoBlock}
pub use Rattle.cedar_edit.specs.Changes.{TellsLonger, TrimsNode, WalksIn}
pub use Rattle.cedar_edit.specs.Step.{MayMakeBlock}
pub use Rattle.cedar_model.specs.Edit.Asked.{SeeksBehind, SeeksPlace}
pub use Rattle.cedar_model.specs.Edit.KeyWalk.{TakenBack, Walked}
pub use Rattle.cedar_model.specs.Edit.NodeEdits.{AddsLabel, DropsNumber, GoesBehind, HasChain, IsAt}
pub use Rattle.cedar_model.specs.Edit.NodeEdits.{IsNodeOf, LeadsTo, Removes, SetsChild, SetsNumber}
pub use Rattle.cedar_model.specs.Edit.NodeEdits.{SetsSibling}
pub use Rattle.cedar_model.specs.Edit.Own.{FieldSet, HasWay, IsOwnAt}
pub use Rattle.cedar_model.specs.Edit.Packing.{joins, MakesIfFull, StaysSmall, TakesSingle}
pub use Rattle.cedar_model.specs.Edit.Steps.{EditsNode, HasNode, Placed, root_of, SameModes}
pub use Rattle.cedar_model.specs.Edit.Steps.{StepsTo}
pub use Rattle.cedar_model.specs.Edit.Trims.{TellsBare}
pub use Rattle.cedar_model.specs.Meaning.Family.{Among, base_of, below, Family, Head, InRange}
pub use Rattle.cedar_model.specs.Meaning.Family.{Links, Node}
pub use Rattle.cedar_model.specs.Meaning.Marks.{KeepsMarks, KeepsOtherMarks, marks, MarksCut}
pub use Rattle.cedar_model.specs.Meaning.Marks.{NewMark, PutsMark, PutsMarks}
pub use Rattle.cedar_model.specs.Meaning.WellFormed.{is_value, IsWellFormed, TableHolds, tree_of}
pub use Rattle.cedar_model.specs.Relocation.Asked.{MayReserve, MovesSlot, Repoints, RepointsUnder}
pub use Rattle.cedar_model.specs.Relocation.Asked.{StandsBelow, WantsSlot}
pub use Rattle.cedar_model.specs.Relocation.Renaming.{Always, IsNode, IsNumber, Movable, OwnsLabels}
pub use Rattle.cedar_model.specs.Relocation.Renaming.{OwnsNothing, Relocated, Renames}
pub use Rattle.cedar_model.specs.Relocation.Renaming.{Repointed, single}
pub use Rattle.cedar_model.specs.Relocation.Reserved.{cells_without, Reserves, SetReserved}
pub use Rattle.cedar_model.specs.Relocation.Reserved.{without_reserved}
pub use Rattle.cedar_model.specs.Relocation.Wanted.{goes_before, with_label}
pub use Rattle.cedar_model.specs.Table.Cells.{Held, IsPlace, SameHeld}
pub use Rattle.cedar_model.specs.Table.Layouts.{reduced_layout}
pub use Rattle.cedar_model.specs.Table.TableFields.{capacity_of, SameFrame, size_of}
pub use Rattle.cedar_model.specs.declared.layout.Stored.TheVariants.{AtBase, OwnNumber}
pub use Rattle.cedar_slots.specs.Places.{IsTable, MayRefuse}
pub use Rattle.cedar_table.specs.Table.Views.{cells, fields}
pub use Rattle.cedar_model.specs.Queries.{node_at}
pub use Rattle.cedar_model.specs.Tree.{cut, Forest, is_bare, IsKey, number_at, without}
