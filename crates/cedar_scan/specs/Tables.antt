-- Where a table keeps the nodes of its tree.
use Rattle.std.specs.Prelude.{ℕ, List, []}
use Rattle.cedar_model.specs.Edit.NodeEdits.{follow_on}
use Rattle.cedar_model.specs.Meaning.StandsFor.{slot_at}
use Rattle.cedar_model.specs.Meaning.WellFormed.{cells_in}
use Rattle.cedar_model.specs.Table.TableFields.{Fields}

-- the slot of a path that leads to a node
abbrev pub slot_in : Fields → List ℕ → ℕ
slot_in T path = slot_at (cells_in T) (follow_on path [])
