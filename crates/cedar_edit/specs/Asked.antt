-- What steps of an update require of a table, each as one fact: a caller that has it hands it on.
use Rattle.std.specs.Prelude.{◌≡◌, ◌≢◌, ◌⊎◌, ◌<◌, ℕ, ℤ, [], None, pos, true}
use Rattle.cedar_slots.specs.Places.{IsTable}
use Rattle.cedar_model.specs.Tree.{Forest}
use Rattle.cedar_model.specs.Table.Cells.{Held}
use Rattle.cedar_model.specs.Table.TableFields.{Fields, size_of}
use Rattle.cedar_model.specs.declared.layout.Stored.TheVariants.{AtBase, OwnNumber}
use Rattle.cedar_model.specs.Meaning.Family.{base_of, below, InRange, Node}
use Rattle.cedar_model.specs.Meaning.WellFormed.{cells_in, is_value}
use Rattle.cedar_model.specs.Edit.NodeEdits.{HasChain, IsNodeOf}
use Rattle.cedar_model.specs.Edit.Steps.{HasNode}
use Rattle.cedar_model.specs.Relocation.Renaming.{IsNode, OwnsNothing}
use Rattle.cedar_edit.specs.Changes.{cells_besides}

-- the node s below the root has a base and owns no slot yet, and its slot for the label is free
pub record TakesAlone (slots : ℕ) (T : Fields) (s child label : ℕ) : Type 0 where
  pub sound : IsTable slots T.places
  pub node_in : s < size_of T
  pub not_root : s ≢ 0
  pub node : (f : Forest) × HasNode T f s
  pub positive : 0 < label
  pub based : InRange (size_of T) ((cells_in T).stored s)
  pub alone : OwnsNothing (cells_in T) s
  pub free : Held (cells_in T) (below (cells_in T) s label) → ⊥
  pub slot : child ≡ below (cells_in T) s label

-- the node below the root has a base and owns no slot yet, and the slot for its number is free
pub record NumbersAlone (slots : ℕ) (T : Fields) (s child : ℕ) : Type 0 where
  pub sound : IsTable slots T.places
  pub node_in : s < size_of T
  pub not_root : 0 < s
  pub node : (f : Forest) × HasNode T f s
  pub based : InRange (size_of T) ((cells_in T).stored s)
  pub alone : OwnsNothing (cells_in T) s
  pub free : Held (cells_in T) (below (cells_in T) s 0) → ⊥
  pub slot : child ≡ below (cells_in T) s 0

-- the node below the root has a base, and its slot for the label is kept back for it
pub record TakesReserved (slots : ℕ) (T : Fields) (s label : ℕ) : Type 0 where
  pub sound : IsTable slots T.places
  pub node_in : s < size_of T
  pub not_root : s ≢ 0
  pub node : (f : Forest) × IsNodeOf (size_of T) (cells_besides T s label) T.ordered f s
  pub positive : 0 < label
  pub based : InRange (size_of T) ((cells_in T).stored s)
  pub reserved : (cells_in T).check (below (cells_in T) s label) ≡ pos 0

-- the slot of the node for the label is free
pub record TakesFree (slots : ℕ) (T : Fields) (s label : ℕ) : Type 0 where
  pub sound : IsTable slots T.places
  pub node_in : s < size_of T
  pub node : (f : Forest) × HasNode T f s
  pub positive : 0 < label
  pub based : (s ≡ 0 → ⊥) → InRange (size_of T) ((cells_in T).stored s)
  pub free : Held (cells_in T) (below (cells_in T) s label) → ⊥

-- the node owns the slot of the label, which is a bare node
pub record MayLoseLabel (slots : ℕ) (T : Fields) (s label : ℕ) : Type 0 where
  pub sound : IsTable slots T.places
  pub node_in : s < size_of T
  pub node : (f : Forest) × HasNode T f s
  pub positive : 0 < label
  pub owned : (cells_in T).check (below (cells_in T) s label) ≡ pos s
  pub bare : Node (size_of T) (cells_in T) (below (cells_in T) s label) None []

-- the node owns the slot of the label, which is in its chain
pub record SeeksOwned (T : Fields) (s label : ℕ) : Type 0 where
  pub node_in : s < size_of T
  pub based : base_of (cells_in T) s < size_of T
  pub chain : HasChain (size_of T) (cells_in T) T.ordered s
  pub root : (c : ℕ) → (cells_in T).check 0 ≢ pos c
  pub positive : 0 < label
  pub owned : (cells_in T).check (below (cells_in T) s label) ≡ pos s

-- the node below the root has a base, and the slot for its number is its own or free
pub record TakesNumber (slots : ℕ) (T : Fields) (s : ℕ) : Type 0 where
  pub sound : IsTable slots T.places
  pub node_in : s < size_of T
  pub not_root : 0 < s
  pub node : (f : Forest) × HasNode T f s
  pub based : InRange (size_of T) ((cells_in T).stored s)
  pub place : ((cells_in T).check (below (cells_in T) s 0) ≡ pos s) ⊎ (Held (cells_in T) (below (cells_in T) s 0) → ⊥)

-- the node below the root has a base, and the slot for its number is kept back for it
pub record NumbersReserved (slots : ℕ) (T : Fields) (s : ℕ) : Type 0 where
  pub sound : IsTable slots T.places
  pub node_in : s < size_of T
  pub not_root : 0 < s
  pub node : (f : Forest) × IsNodeOf (size_of T) (cells_besides T s 0) T.ordered f s
  pub based : InRange (size_of T) ((cells_in T).stored s)
  pub reserved : (cells_in T).check (below (cells_in T) s 0) ≡ pos 0

-- the node below the root owns the slot of its number
pub record MayLoseNumber (slots : ℕ) (T : Fields) (s : ℕ) : Type 0 where
  pub sound : IsTable slots T.places
  pub node_in : s < size_of T
  pub not_root : 0 < s
  pub node : (f : Forest) × HasNode T f s
  pub based : InRange (size_of T) ((cells_in T).stored s)
  pub owned : (cells_in T).check (below (cells_in T) s 0) ≡ pos s

-- the node below the root is a leaf without base, and the label is no number
pub record ExtendsLeaf (slots : ℕ) (T : Fields) (s label : ℕ) : Type 0 where
  pub sound : IsTable slots T.places
  pub node_in : s < size_of T
  pub not_root : s ≢ 0
  pub node : (f : Forest) × HasNode T f s
  pub positive : 0 < label
  pub leaf : (cells_in T).stored s ≡ AtBase 0

-- the node below the root is a leaf without base
pub record NumbersLeaf (slots : ℕ) (T : Fields) (s : ℕ) : Type 0 where
  pub sound : IsTable slots T.places
  pub node_in : s < size_of T
  pub not_root : s ≢ 0
  pub node : (f : Forest) × HasNode T f s
  pub leaf : (cells_in T).stored s ≡ AtBase 0

-- the node below the root owns no slot
pub record MayLoseOwn (slots : ℕ) (T : Fields) (s : ℕ) : Type 0 where
  pub sound : IsTable slots T.places
  pub node_in : s < size_of T
  pub not_root : s ≢ 0
  pub node : (f : Forest) × HasNode T f s
  pub alone : OwnsNothing (cells_in T) s

-- the number of the node below the root is in its own base field
pub record MayMoveOwn (slots : ℕ) (T : Fields) (s : ℕ) (v : ℤ) : Type 0 where
  pub sound : IsTable slots T.places
  pub node_in : s < size_of T
  pub not_root : s ≢ 0
  pub node : (f : Forest) × HasNode T f s
  pub own : (cells_in T).stored s ≡ OwnNumber v

-- the node keeps no number in its own base field, and the label is no number
pub record StepsOneOn (slots : ℕ) (T : Fields) (s label : ℕ) : Type 0 where
  pub sound : IsTable slots T.places
  pub node_in : s < size_of T
  pub node : (f : Forest) × HasNode T f s
  pub positive : 0 < label
  pub no_own_number : (v : ℤ) → (cells_in T).stored s ≢ OwnNumber v

-- the node below the root keeps no number in its own base field
pub record GoesToSlot (slots : ℕ) (T : Fields) (s : ℕ) : Type 0 where
  pub sound : IsTable slots T.places
  pub node_in : s < size_of T
  pub not_root : s ≢ 0
  pub node : (f : Forest) × HasNode T f s
  pub no_own_number : (v : ℤ) → (cells_in T).stored s ≢ OwnNumber v

-- a node below the root, and a number in range
pub record PutsNumberAt (slots : ℕ) (T : Fields) (s : ℕ) (v : ℤ) : Type 0 where
  pub sound : IsTable slots T.places
  pub node_in : s < size_of T
  pub not_root : s ≢ 0
  pub node : (f : Forest) × HasNode T f s
  pub value : is_value v ≡ true

-- two nodes below the root
pub record AreTwoNodes (T : Fields) (one other : ℕ) : Type 0 where
  pub one_in : one < size_of T
  pub other_in : other < size_of T
  pub one_not_root : one ≢ 0
  pub other_not_root : other ≢ 0
  pub one_node : IsNode (size_of T) (cells_in T) one
  pub other_node : IsNode (size_of T) (cells_in T) other
