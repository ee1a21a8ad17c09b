-- The last node of a walk in a table, and the way to it.
use Rattle.std.specs.Prelude.{◌≡◌, ◌-◌, ◌<◌, List, [], ◌∷◌, ◌++◌, length}
use Rattle.cedar_model.specs.Queries.{Entry, walk}
use Rattle.cedar_walk.specs.declared.visits.Numbered.{Numbered}
use Rattle.cedar_walk.specs.declared.visits.Place.{Place}
use Rattle.cedar_model.specs.Table.TableFields.{Fields}
use Rattle.cedar_model.specs.Meaning.WellFormed.{cells_in, tree_of}
use Rattle.cedar_walk.specs.Visits.{entries_at, IsBelow, IsNumberedBelow, left_after}
use Rattle.cedar_walk.specs.Visits.{left_at, owner_of, path_to}

-- a place below the root, from which a walk has nothing left once it is through with all below the node above
pub record IsOnLastWay (T : Fields) (place : Place) : Type 0 where
  pub below : IsBelow (cells_in T) [] place.depth place.slot
  pub deep : 0 < place.depth
  pub alone : left_after T [] (place.depth - 1) (owner_of (cells_in T) place.slot) ≡ []

-- from one place the way goes on to another one, past some entries of the walk
pub record GoesPast (T : Fields) (place next : Place) : Type 0 where
  pub on : IsOnLastWay T next
  pub before : List Entry
  pub entries : entries_at T [] place.depth place.slot ≡ before ++ entries_at T [] next.depth next.slot
  pub less : length (left_at T [] next.depth next.slot) < length (left_at T [] place.depth place.slot)

-- the way has come to a place past some entries, the first ones of the walk
pub record HasPassed (T : Fields) (place : Place) : Type 0 where
  pub on : IsOnLastWay T place
  pub before : List Entry
  pub entries : walk (tree_of T) ≡ before ++ entries_at T [] place.depth place.slot

-- a node with a number, whose entry is the last one of the walk
pub record IsLastNumber (T : Fields) (last : Numbered) : Type 0 where
  pub below : IsNumberedBelow T [] last.depth last.slot
  pub before : List Entry
  pub entries : walk (tree_of T) ≡ before ++ (path_to T last.depth last.slot, last.number) ∷ []
