-- What the steps of an edit require of a table, each as one fact: a caller that has it hands it on.
use Rattle.std.specs.Prelude.{◌≢◌, ◌<◌, ◌^◌, ℕ, List, length, pos}
use Rattle.cedar_slots.specs.Places.{IsTable}
use Rattle.cedar_model.specs.Table.Cells.{Held}
use Rattle.cedar_model.specs.Table.TableFields.{Fields, size_of}
use Rattle.cedar_model.specs.Edit.NodeEdits.{HasChain, IsBehind}
use Rattle.cedar_model.specs.Meaning.Family.{base_of, below, Links}
use Rattle.cedar_model.specs.Meaning.WellFormed.{cells_in}

-- slot s is a node with a chain, and its slot for the label isn't its own
pub record SeeksPlace (T : Fields) (s label : ℕ) : Type 0 where
  pub node_in : s < size_of T
  pub based : base_of (cells_in T) s < size_of T
  pub chain : HasChain (size_of T) (cells_in T) T.ordered s
  pub absent : (cells_in T).check (below (cells_in T) s label) ≢ pos s

-- slot s is a node with a chain from `start` on, and its slot for the label, which goes behind `start`, isn't its own
pub record SeeksBehind (T : Fields) (s start label : ℕ) : Type 0 where
  pub node_in : s < size_of T
  pub based : base_of (cells_in T) s < size_of T
  pub start_in : start < size_of T
  pub behind : IsBehind (cells_in T) T.ordered s label start
  pub absent : (cells_in T).check (below (cells_in T) s label) ≢ pos s
  pub rest : (ls : List ℕ) × Links (cells_in T) s ((cells_in T).sibling start) ls × (length ls < 256)

-- the held slot s below the root can go to an owner
pub record MayClaim (slots : ℕ) (T : Fields) (s owner : ℕ) : Type 0 where
  pub sound : IsTable slots T.places
  pub slot_in : s < size_of T
  pub slot_held : Held (cells_in T) s
  pub not_root : s ≢ 0
  pub owner_in : owner < 2 ^ 31
