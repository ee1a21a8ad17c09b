-- The words of clauses, from one place.
pub use Rattle.cedar_walk.specs.Asked.{GoesOnBelow, GoesOnWith, GoesOnPending, HasChildUnder}
pub use Rattle.cedar_walk.specs.Asked.{HoldsNumber, MayKeep, StandsUnder}
pub use Rattle.cedar_model.specs.Edit.NodeEdits.{IsAt}
pub use Rattle.cedar_model.specs.Meaning.Family.{below}
pub use Rattle.cedar_model.specs.Meaning.StandsFor.{Stands}
pub use Rattle.cedar_model.specs.Meaning.WellFormed.{IsWellFormed, tree_of}
pub use Rattle.cedar_model.specs.Table.TableFields.{size_of}
pub use Rattle.cedar_table.specs.Table.Views.{cells, fields}
pub use Rattle.cedar_model.specs.Queries.{exact, node_at, walk}
pub use Rattle.cedar_model.specs.Tree.{has_label, Tree}
pub use Rattle.cedar_walk.specs.Batch.{AreLanes, IsLane, keys_of}
pub use Rattle.cedar_walk.specs.Ends.{GoesPast, IsLastNumber, IsOnLastWay}
pub use Rattle.cedar_walk.specs.Fronts.{front_length, IsNextFront, IsOnQuery}
pub use Rattle.cedar_walk.specs.Keys.{FirstKeyOutgrows, KeyGoesOn, KeyOutgrows, NextKeyOutgrows}
pub use Rattle.cedar_walk.specs.Pending.{GoesKeeping, IsPending, kept_behind, NoneLeft}
pub use Rattle.cedar_walk.specs.RangePlaces.{AboveFrom, BeginsAtFirst, IsReached, left_above}
pub use Rattle.cedar_walk.specs.Ranges.{entries_since}
pub use Rattle.cedar_walk.specs.Visits.{ComesToFirst, FindsNumber, first_sibling_label, GoesToNode}
pub use Rattle.cedar_walk.specs.Visits.{GoesToNumber, GoesToPlace, IsBelow}
pub use Rattle.cedar_walk.specs.Visits.{IsNumberedBelow, label_after, left_after}
pub use Rattle.cedar_walk.specs.Visits.{left_at, owner_of, path_to, SkipsToNode}
