-- A walk over the nodes of a table of which only `IsTable` is known, and not yet whether it represents a tree.
use Rattle.std.specs.Prelude.{◌≡◌, ◌≢◌, ℕ, zero, suc, ◌+◌, ◌*◌, ◌<◌, ◌≤◌, ◌⊎◌, Bool, true, ℤ}
use Rattle.std.specs.Prelude.{negsuc, pos, None, IfOk, IfSome, OnErr, Result, ◌^◌, is_some, cond}
use Rattle.cedar_file.specs.declared.check.tree.Walk.{Walk}
use Rattle.cedar_model.specs.declared.layout.Stored.{Stored}
use Rattle.cedar_model.specs.declared.layout.Stored.TheVariants.{AtBase, OwnNumber, Nothing}
use Rattle.cedar_model.specs.Table.Cells.{Cells}
use Rattle.cedar_model.specs.Table.TableFields.{Fields, size_of}
use Rattle.cedar_model.specs.Meaning.Family.{base_of, below}
use Rattle.cedar_model.specs.Meaning.Reading.{first_in, has_number_slot, number_in}
use Rattle.cedar_model.specs.Meaning.WellFormed.{cells_in, is_value}

-- what a base field may say of a node below the root: a base outside block 0 and in use, or a number of its own
abbrev pub IsOfNode : ℕ → Stored → Type 0
IsOfNode size (AtBase b) = (256 ≤ b) × (b < size)
IsOfNode size (OwnNumber v) = Unit {0}
IsOfNode size Nothing = ⊥

-- slot s looks like that of a node below the root: its base field is as `IsOfNode` says; `child` is 0 if it has a
-- number, also in the number's slot; the number is in range; and it has a number or a first label
pub record LooksLikeNode (size : ℕ) (T : Cells) (s : ℕ) : Type 0 where
  pub stored : IsOfNode size (T.stored s)
  pub own : (v : ℤ) → T.stored s ≡ OwnNumber v → T.child s ≡ 0
  pub in_slot : has_number_slot T s ≡ true → (T.child s ≡ 0) × (T.child (below T s 0) ≡ 0)
  pub value : IfSome (number_in T s) (λ v. is_value v ≡ true)
  pub some : number_in T s ≡ None → first_in T s ≢ 0

-- the root's slot looks like it: it has no owner, its slots begin at 0, and its `child` is 0
pub record LooksLikeRoot (T : Cells) : Type 0 where
  pub check : T.check 0 ≡ negsuc 0
  pub stored : T.stored 0 ≡ AtBase 0
  pub child : T.child 0 ≡ 0

-- how many slots the node at slot s takes: its own, and that of its number if it has one
abbrev pub slots_at : Cells → ℕ → ℕ
slots_at T s = 1 + cond (has_number_slot T s) 1 0

-- how many numbers the node at slot s has: one or none
abbrev pub number_count_at : Cells → ℕ → ℕ
number_count_at T s = cond (is_some (number_in T s)) 1 0

-- the walk once it has come to slot s, and to the label c below it
abbrev pub walk_at : Cells → ℕ → ℕ → ℕ → ℕ → Walk
walk_at T s c met numbers = record { node = s; base = base_of T s; label = c; met = met; numbers = numbers }

-- the walk at its beginning: it has met the root's slot
abbrev pub walk_start : Cells → Walk
walk_start T = walk_at T 0 (T.sibling 0) 1 0

-- the walk goes on to the child under its label, whose slot has the node as its check and looks like a node's
pub record GoesDown (size : ℕ) (T : Cells) (w : Walk) : Type 0 where
  pub positive : 0 < w.label
  pub small : w.label < 256
  pub owned : T.check (below T w.node w.label) ≡ pos w.node
  pub looks : LooksLikeNode size T (below T w.node w.label)

-- the walk once it has met the node at slot s, with the slots and the numbers that the node has itself
abbrev pub walk_met : Cells → Walk → ℕ → Walk
walk_met T w s = walk_at T s (first_in T s) (w.met + slots_at T s) (w.numbers + number_count_at T s)

-- the node at slot s was met, and the walk goes on below it; or its slot doesn't look like a node's
pub record MeetsNode {E : Type 0} (size : ℕ) (T : Cells) (w : Walk) (s : ℕ) (result : Result Walk E) : Type 0 where
  pub met : IfOk result (λ next. LooksLikeNode size T s × (next ≡ walk_met T w s))
  pub faulty : OnErr result (LooksLikeNode size T s → ⊥)

-- what was met so far can be counted on
abbrev pub HasRoom : Walk → Type 0
HasRoom w = (w.met ≤ 2 ^ 32) × (w.numbers ≤ 2 ^ 32)

-- what is known where a node whose base field names a base is met: its slot is in use
pub record AtBased (T : Fields) (w : Walk) (s b : ℕ) : Type 0 where
  pub inside : s < size_of T
  pub room : HasRoom w
  pub stored : (cells_in T).stored s ≡ AtBase b

-- what is known where a node and its number's slot are met, with the number and the node's `child`
pub record AtValued (T : Fields) (w : Walk) (s b : ℕ) (v : ℤ) (label : ℕ) : Type 0 where
  pub inside : b < size_of T
  pub room : HasRoom w
  pub stored : (cells_in T).stored s ≡ AtBase b
  pub owned : (cells_in T).check b ≡ pos s
  pub value : v ≡ (cells_in T).base b
  pub child : label ≡ (cells_in T).child s

-- what is known where a node is met that keeps its number in its own base field
pub record AtOwn (T : Fields) (w : Walk) (s : ℕ) (value : ℤ) : Type 0 where
  pub inside : s < size_of T
  pub room : HasRoom w
  pub root : LooksLikeRoot (cells_in T)
  pub stored : (cells_in T).stored s ≡ OwnNumber value

-- what is known of a walk on its way
pub record AtNode (T : Fields) (w : Walk) : Type 0 where
  pub inside : w.node < size_of T
  pub base : w.base ≡ base_of (cells_in T) w.node
  pub room : HasRoom w
  pub root : LooksLikeRoot (cells_in T)

-- the walk once it has met the child under its label
abbrev pub walk_down : Cells → Walk → Walk
walk_down T w = walk_met T w (below T w.node w.label)

-- at the end of a chain the walk goes to the node's owner c, and there on to the label that the node names next,
-- which is a higher one if labels have to ascend
pub record GoesUp (size : ℕ) (ordered : Bool) (T : Cells) (w : Walk) (c : ℕ) : Type 0 where
  pub ended : w.label ≡ 0
  pub not_root : w.node ≢ 0
  pub owner : T.check w.node ≡ pos c
  pub inside : c < size
  pub ascends : ordered ≡ true → 0 < T.sibling w.node → below T c w.node < T.sibling w.node

-- the walk once it is back at the node's owner c, with the label that the node names next
abbrev pub walk_up : Cells → Walk → ℕ → Walk
walk_up T w c = walk_at T c (T.sibling w.node) w.met w.numbers

-- the walk is back at the root, with no label left, and has met so many slots and numbers
pub record IsBack (w : Walk) (m e : ℕ) : Type 0 where
  pub ended : w.label ≡ 0
  pub root : w.node ≡ 0
  pub met : w.met ≡ m
  pub numbers : w.numbers ≡ e

-- a step of a walk down: to the child under its label
abbrev pub StepsDown : ℕ → Cells → Walk → Walk → Type 0
StepsDown size T w next = GoesDown size T w × (next ≡ walk_down T w)

-- a step of a walk up: to the node's owner
abbrev pub StepsUp : ℕ → Bool → Cells → Walk → Walk → Type 0
StepsUp size ordered T w next = (c : ℕ) × GoesUp size ordered T w c × (next ≡ walk_up T w c)

-- a step of a walk: down or up
abbrev pub GoesOn : ℕ → Bool → Cells → Walk → Walk → Type 0
GoesOn size ordered T w next = StepsDown size T w next ⊎ StepsUp size ordered T w next

-- in fewer than n steps the walk comes back to the root, and has met so many slots and numbers then
unfoldable pub ComesBack : ℕ → ℕ → Bool → Cells → Walk → ℕ → ℕ → Type 0
ComesBack zero size ordered T w met numbers = ⊥
ComesBack (suc n) size ordered T w met numbers =
    IsBack w met numbers ⊎ ((next : Walk) × GoesOn size ordered T w next × ComesBack n size ordered T next met numbers)

-- the walk comes back to the root in fewer than two steps for each slot in use, and has met so many slots and numbers
-- then
abbrev pub ComesBackIn : Fields → Walk → ℕ → ℕ → Type 0
ComesBackIn T w met numbers = ComesBack (2 * size_of T) (size_of T) T.ordered (cells_in T) w met numbers
