-- What the steps of a build require of a table, each as one fact: a caller that has it hands it on.
use Rattle.std.specs.Prelude.{◌≡◌, ◌≢◌, ◌<◌, ◌≤◌, ℕ, ℤ, List, length, Option, Some, None, true}
use Rattle.cedar_model.specs.Tree.{Forest}
use Rattle.cedar_slots.specs.Places.{IsTable}
use Rattle.cedar_model.specs.declared.layout.Stored.TheVariants.{AtBase}
use Rattle.cedar_model.specs.Table.Cells.{Held}
use Rattle.cedar_model.specs.Table.TableFields.{Fields, size_of}
use Rattle.cedar_model.specs.Edit.NodeEdits.{Above, IsNodeOf}
use Rattle.cedar_model.specs.Meaning.Family.{Among, base_of, below, InRange}
use Rattle.cedar_model.specs.Meaning.WellFormed.{cells_in}
use Rattle.cedar_bulk.specs.Sorted.{GoesLast, IsBareNode, IsChildless, slot_labels}

-- the node s has neither number nor label nor base
pub record IsUnfilled (slots : ℕ) (T : Fields) (s : ℕ) : Type 0 where
  pub sound : IsTable slots T.places
  pub node_in : s < size_of T
  pub node : IsBareNode (size_of T) (cells_in T) s
  pub leaf : (cells_in T).stored s ≡ AtBase 0

-- the node s has neither number nor label nor base, and is to have a base for these labels, of which 0 stands for the
-- number
pub record WantsBase (slots : ℕ) (T : Fields) (s : ℕ) (wanted : List ℕ) : Type 0 where
  pub sound : IsTable slots T.places
  pub node_in : s < size_of T
  pub node : IsBareNode (size_of T) (cells_in T) s
  pub leaf : (cells_in T).stored s ≡ AtBase 0
  pub some : 0 < length wanted
  pub few : length wanted ≤ 256
  pub positive_at_root : s ≡ 0 → (l : ℕ) → Among wanted l → 0 < l

-- the node s below the root has this base, and neither number nor label; its number's slot is free
pub record WantsNumber (slots : ℕ) (T : Fields) (s base : ℕ) : Type 0 where
  pub sound : IsTable slots T.places
  pub node_in : s < size_of T
  pub not_root : s ≢ 0
  pub node : IsBareNode (size_of T) (cells_in T) s
  pub based : InRange (size_of T) ((cells_in T).stored s)
  pub base_is : base ≡ base_of (cells_in T) s
  pub free : Held (cells_in T) (below (cells_in T) s 0) → ⊥

-- the node s has this base, and neither number nor label. If it is to have a number, that one's slot is free
pub record WantsChain (slots : ℕ) (T : Fields) (s base : ℕ) (number : Option ℤ) : Type 0 where
  pub sound : IsTable slots T.places
  pub node_in : s < size_of T
  pub not_root : s ≡ 0 → number ≡ None
  pub node : IsBareNode (size_of T) (cells_in T) s
  pub based : (s ≡ 0 → ⊥) → InRange (size_of T) ((cells_in T).stored s)
  pub base_is : base ≡ base_of (cells_in T) s
  pub free : (v : ℤ) → number ≡ Some v → Held (cells_in T) (below (cells_in T) s 0) → ⊥

-- the node s has this base, and is to have the label behind all that it has. The label's slot is free
pub record WantsLabel (slots : ℕ) (T : Fields) (s base : ℕ) (before : Option ℕ) (label : ℕ) : Type 0 where
  pub sound : IsTable slots T.places
  pub node_in : s < size_of T
  pub node : (f : Forest) × IsNodeOf (size_of T) (cells_in T) true f s
  pub positive : 0 < label
  pub based : (s ≡ 0 → ⊥) → InRange (size_of T) ((cells_in T).stored s)
  pub base_is : base ≡ base_of (cells_in T) s
  pub free : Held (cells_in T) (below (cells_in T) s label) → ⊥
  pub ends : GoesLast (size_of T) (cells_in T) s label before

-- the node s has this base and no label, and is to have these ascending labels, whose slots are free
pub record WantsLabels (slots : ℕ) (T : Fields) (s base : ℕ) (before : Option ℕ) (labels : List ℕ) : Type 0 where
  pub sound : IsTable slots T.places
  pub node_in : s < size_of T
  pub node : IsChildless (size_of T) (cells_in T) s
  pub based : (s ≡ 0 → ⊥) → InRange (size_of T) ((cells_in T).stored s)
  pub base_is : base ≡ base_of (cells_in T) s
  pub ascends : Above 0 labels
  pub free : (l : ℕ) → Among labels l → Held (cells_in T) (below (cells_in T) s l) → ⊥
  pub ends : (l : ℕ) → GoesLast (size_of T) (cells_in T) s l before

-- the node s has neither number nor label nor base, and is to have this number and these ascending labels, which are
-- listed with 0 for the number
pub record WantsSlots (slots : ℕ) (T : Fields) (s : ℕ) (number : Option ℤ) (listed labels : List ℕ) : Type 0 where
  pub sound : IsTable slots T.places
  pub node_in : s < size_of T
  pub not_root : s ≡ 0 → number ≡ None
  pub node : IsBareNode (size_of T) (cells_in T) s
  pub leaf : (cells_in T).stored s ≡ AtBase 0
  pub wanted : listed ≡ slot_labels number labels
  pub some : 0 < length listed
  pub few : length listed ≤ 256
  pub ascends : Above 0 labels
