-- What the steps of a move require of a table, each as one fact: a caller that has it hands it on.
use Rattle.std.specs.Prelude.{◌≡◌, ◌≢◌, ℕ, ℤ, ◌<◌, ◌≤◌, ◌^◌, Bool, false, List, pos, true}
use Rattle.cedar_tree.specs.Tree.{Forest}
use Rattle.cedar_slots.specs.Places.{IsTable}
use Rattle.cedar_model.specs.Table.Cells.{Held}
use Rattle.cedar_model.specs.Table.TableFields.{Fields, size_of}
use Rattle.cedar_model.specs.declared.layout.Stored.TheVariants.{OwnNumber}
use Rattle.cedar_model.specs.Meaning.Family.{base_of, below}
use Rattle.cedar_model.specs.Meaning.StandsFor.{OnPath, slot_at}
use Rattle.cedar_model.specs.Meaning.WellFormed.{cells_in, TableHolds}
use Rattle.cedar_model.specs.Edit.Steps.{HasNode}
use Rattle.cedar_model.specs.Relocation.Renaming.{IsNode, OwnsNothing}

-- the slot `from`, which `owner` has for a label, can move to the free slot `to`
pub record MovesSlot (slots : ℕ) (T : Fields) (from to owner label : ℕ) : Type 0 where
  pub sound : IsTable slots T.places
  pub from_in : from < size_of T
  pub to_in : to < size_of T
  pub owner_in : owner < size_of T
  pub mine : (cells_in T).check from ≡ pos owner
  pub not_own : owner ≢ from
  pub free : Held (cells_in T) to → ⊥
  pub root : (c : ℕ) → (cells_in T).check 0 ≡ pos c → ⊥
  pub node : (label ≡ 0 → ⊥) → IsNode (size_of T) (cells_in T) from
  pub alone : label ≡ 0 → OwnsNothing (cells_in T) from

-- a node is in the tree below the root, with its slots outside block 0
pub record StandsBelow (slots : ℕ) (T : Fields) (node : ℕ) : Type 0 where
  pub sound : IsTable slots T.places
  pub node_in : node < size_of T
  pub not_root : node ≢ 0
  pub based : 256 ≤ base_of (cells_in T) node
  pub on_path : (p : List ℕ) × OnPath (cells_in T) p × (slot_at (cells_in T) p ≡ node)
  pub holds : (f : Forest) × TableHolds T f

-- the node s below the root has a base, and another node holds its slot for the label
pub record WantsSlot (slots : ℕ) (T : Fields) (s label : ℕ) : Type 0 where
  pub sound : IsTable slots T.places
  pub node_in : s < size_of T
  pub not_root : s ≢ 0
  pub based : 256 ≤ base_of (cells_in T) s
  pub node : (f : Forest) × HasNode T f s
  pub taken : Held (cells_in T) (below (cells_in T) s label)
  pub absent : (cells_in T).check (below (cells_in T) s label) ≢ pos s

-- the slot of the node s for the label isn't its own, and is free if the node has a base
pub record WantsRoom (slots : ℕ) (T : Fields) (s label : ℕ) : Type 0 where
  pub sound : IsTable slots T.places
  pub node_in : s < size_of T
  pub node : (f : Forest) × HasNode T f s
  pub positive_at_root : s ≡ 0 → 0 < label
  pub no_own_number : (v : ℤ) → (cells_in T).stored s ≢ OwnNumber v
  pub absent : (cells_in T).check (below (cells_in T) s label) ≢ pos s
  pub slot_free : base_of (cells_in T) s ≢ 0 → Held (cells_in T) (below (cells_in T) s label) → ⊥

-- what the node `from` owns can go to another owner
pub record Repoints (slots : ℕ) (T : Fields) (from to : ℕ) : Type 0 where
  pub sound : IsTable slots T.places
  pub from_in : from < size_of T
  pub not_root : from ≢ 0
  pub to_in : to < 2 ^ 31
  pub node : IsNode (size_of T) (cells_in T) from

-- what the slot `from` of a label owns can go to another owner; the slot of a number owns nothing
pub record RepointsUnder (slots : ℕ) (T : Fields) (from to label : ℕ) : Type 0 where
  pub sound : IsTable slots T.places
  pub from_in : from < size_of T
  pub not_root : from ≢ 0
  pub to_in : to < 2 ^ 31
  pub node : (label ≡ 0 → ⊥) → IsNode (size_of T) (cells_in T) from
  pub alone : label ≡ 0 → OwnsNothing (cells_in T) from

-- slot s is free, or held in the root's name once it is reserved
pub record MayReserve (slots : ℕ) (T : Fields) (s : ℕ) (reserved : Bool) : Type 0 where
  pub sound : IsTable slots T.places
  pub slot_in : s < size_of T
  pub not_root : s ≢ 0
  pub slot_free : reserved ≡ false → Held (cells_in T) s → ⊥
  pub marked : reserved ≡ true → (cells_in T).check s ≡ pos 0
