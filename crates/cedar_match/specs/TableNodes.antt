-- The nodes of a dictionary's table, as a walk over any labelled tree sees them.
use Rattle.std.specs.Prelude.{◌≡◌, ℕ, List, [], length, Option, option_map}
use Rattle.cedarwood.specs.Dictionary.{Dictionary}
use Rattle.cedarwood.specs.OnTable.{IsOnTable}
use Rattle.cedarwood.specs.Words.{cells_in, IsBelow, path_to}
use Rattle.cedar_walk.specs.declared.visits.Visited.{Visited}
use Rattle.cedar_match.specs.declared.nodes.Node.{Node}

-- a node that a walk over the table visits, as a `Node`
abbrev pub as_node : Visited → Node
as_node v = record { slot = v.slot; depth = v.depth; label = v.label; number = v.number }

-- a node that a walk over the table visits, if there is one, as a `Node`
abbrev pub node_of : Option Visited → Option Node
node_of visited = option_map as_node visited

-- a slot is the node at the end of a path from the root, in the table of a dictionary for so many slots
pub record StandsIn (slots : ℕ) (d : Dictionary) (path : List ℕ) (slot : ℕ) : Type 0 where
  pub table : IsOnTable slots d
  pub below : IsBelow (cells_in d.table) [] (length path) slot
  pub along : path_to d.table (length path) slot ≡ path
