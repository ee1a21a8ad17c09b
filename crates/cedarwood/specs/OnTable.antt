-- That what a caller sees of a dictionary is what its table says.
use Rattle.std.specs.Prelude.{◌≡◌, ℕ}
use Rattle.cedar_model.specs.Meaning.Marks.{marks}
use Rattle.cedar_model.specs.Meaning.WellFormed.{IsWellFormed, tree_of}
use Rattle.cedar_model.specs.Table.TableFields.{Fields, capacity_of, size_of}
use Rattle.cedarwood.specs.Dictionary.{Dictionary}

-- the table of a dictionary is well-formed for `slots` slots; its state, marks, settings and sizes are those of this
-- table
pub record IsOnTable (slots : ℕ) (d : Dictionary) : Type 0 where
  pub formed : IsWellFormed slots d.table
  pub state : d.state ≡ record { tree = tree_of d.table; ordered = d.table.ordered }
  pub marked : d.marked ≡ marks d.table
  pub max_trial : d.max_trial ≡ d.table.places.blocks.max_trial
  pub size : d.size ≡ size_of d.table
  pub capacity : d.capacity ≡ capacity_of d.table

-- what is seen of a dictionary over a table, in which one search tries n blocks at most
abbrev pub dictionary_of : ℕ → Fields → Dictionary
dictionary_of n T = record {
  state = record { tree = tree_of T; ordered = T.ordered };
  marked = marks T;
  max_trial = T.places.blocks.max_trial;
  search_limit = n;
  size = size_of T;
  capacity = capacity_of T;
  table = T;
}
