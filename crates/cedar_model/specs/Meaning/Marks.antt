-- Marks: which numbers are in slots of their own. By default all are; in the reduced layout some are in their node's
-- own base field.
use Rattle.std.specs.Prelude.{◌≡◌, ◌↔◌, ◌⊎◌, ℕ, ◌<◌, Bool, true, false, cond, List, length}
use Rattle.std.specs.Prelude.{take, Option, None, Some, is_some}
use Rattle.cedar_tree.specs.Tree.{Forest, none, child, has_label, number_at, Tree}
use Rattle.cedar_tree.specs.Queries.{IsFront, node_at}
use Rattle.cedar_model.specs.declared.layout.Stored.{Stored}
use Rattle.cedar_model.specs.declared.layout.Stored.TheVariants.{AtBase, OwnNumber, Nothing}
use Rattle.cedar_model.specs.Table.Cells.{Cells}
use Rattle.cedar_model.specs.Edit.NodeEdits.{IsAt}
use Rattle.cedar_model.specs.Meaning.Family.{below}
use Rattle.cedar_model.specs.Table.Layouts.{reduced_layout}
use Rattle.cedar_model.specs.Meaning.Reading.{has_number_slot}
use Rattle.cedar_model.specs.Table.TableFields.{Fields}
use Rattle.cedar_model.specs.Meaning.WellFormed.{cells_in, tree_of}

-- siblings below slot s with all nodes, and just those of their numbers that are in slots of their own
abbrev pub marks_below : Cells → ℕ → Forest → Forest
marks_below T s none = none
marks_below T s (child l n f rest) = child l (cond (has_number_slot T (below T s l)) n None) (marks_below T (below T s l) f) (marks_below T s rest)

-- the tree of marks: a table's tree with all nodes, and just the numbers that have slots of their own
abbrev pub marks : Fields → Tree
marks T = record { number = None; children = marks_below (cells_in T) 0 (tree_of T).children }

-- false if a base field is a node's own number, and else none
abbrev pub own_mark : Stored → Option Bool
own_mark (AtBase b) = None
own_mark (OwnNumber v) = Some false
own_mark Nothing = None

-- how the node at slot s keeps its number: true in a slot of its own, false in its own base field, and none without a
-- number
abbrev pub mark : Cells → ℕ → Option Bool
mark T s = cond (has_number_slot T s) (Some true) (own_mark (T.stored s))

-- each number is kept as it was, at the same path
abbrev pub KeepsMarks : Cells → Cells → Type 0
KeepsMarks T T' = (w : List ℕ) (s : ℕ) (m : Bool) → IsAt T w s → mark T s ≡ Some m → (s' : ℕ) × IsAt T' w s' × (mark T' s' ≡ Some m)

-- each number but that of the node at slot a is kept as it was, at the same path
abbrev pub KeepsOtherMarks : Cells → Cells → ℕ → Type 0
KeepsOtherMarks T T' a = (w : List ℕ) (s : ℕ) (m : Bool) → IsAt T w s → (s ≡ a → ⊥) → mark T s ≡ Some m → (s' : ℕ) × IsAt T' w s' × (mark T' s' ≡ Some m)

-- at the path w is a number, and m says how it is kept (`mark`)
abbrev pub MarkedAt : Cells → List ℕ → Bool → Type 0
MarkedAt T w m = (s : ℕ) × IsAt T w s × (mark T s ≡ Some m)

-- the node that was at slot a has a number now, which is kept as m says, and each other number is kept as it was
pub record PutsMark (T T' : Cells) (a : ℕ) (m : Bool) : Type 0 where
  pub here : (w : List ℕ) → IsAt T w a → MarkedAt T' w m
  pub others : KeepsOtherMarks T T' a

-- the key begins with w, and goes on
abbrev pub IsProperFront : List ℕ → List ℕ → Type 0
IsProperFront w key = (n : ℕ) × (n < length key) × (w ≡ take n key)

-- the number of a key that an update has put, where the key wasn't held: it has a slot of its own if the key is a
-- front of one that is held, and in the reduced layout only then
pub record NewMark (before after : Fields) (key : List ℕ) : Type 0 where
  pub front : number_at (tree_of before) key ≡ None → IsFront (tree_of before) key → MarkedAt (cells_in after) key true
  pub last : before.layout ≡ reduced_layout → (IsFront (tree_of before) key → ⊥) → MarkedAt (cells_in after) key false

-- what an update of a key does to marks. Where the key was held, nothing; the number of each proper front that is
-- held has a slot; each other number is kept as it was; a new key's number is as `NewMark` says
pub record PutsMarks (before after : Fields) (key : List ℕ) : Type 0 where
  -- where the key was held, nothing
  pub over : is_some (number_at (tree_of before) key) ≡ true → KeepsMarks (cells_in before) (cells_in after)
  -- the number of each proper front of the key that is held has a slot of its own
  pub fronts : (w : List ℕ) → IsProperFront w key → is_some (number_at (tree_of before) w) ≡ true → MarkedAt (cells_in after) w true
  -- each other number is kept as it was
  pub others : (w : List ℕ) (m : Bool) → (IsProperFront w key → ⊥) → MarkedAt (cells_in before) w m → MarkedAt (cells_in after) w m
  pub new : NewMark before after key

-- a tree of marks has the number at the path w
abbrev pub HasMark : Tree → List ℕ → Type 0
HasMark m w = is_some (number_at m w) ≡ true

-- what an update of a key does to trees of marks in the reduced layout, where t was the tree and m the tree of marks.
-- Over a number it does nothing. Else what was marked stays marked, and besides are marked just the key's proper
-- fronts that are held, and the key if it is a front of one that is held
pub record MarksPut (t m m' : Tree) (key : List ℕ) : Type 0 where
  pub over : is_some (number_at t key) ≡ true → (w : List ℕ) → HasMark m' w ↔ HasMark m w
  pub new : number_at t key ≡ None → (w : List ℕ) → HasMark m' w ↔ (HasMark m w ⊎ (IsProperFront w key × (is_some (number_at t w) ≡ true)) ⊎ ((w ≡ key) × IsFront t key))

-- what an erasure does to trees of marks: it takes away the mark of its key alone
abbrev pub MarksCut : Tree → Tree → List ℕ → Type 0
MarksCut m m' key = (w : List ℕ) → HasMark m' w ↔ ((w ≡ key → ⊥) × HasMark m w)

-- the number at the path u, which the tree t has with no node below it, has moved from the node's own base field into
-- a slot
pub record MovesOut (T T' : Cells) (t : Tree) (u : List ℕ) : Type 0 where
  pub slot : ℕ
  pub at : IsAt T u slot
  pub own : mark T slot ≡ Some false
  pub stays : IsAt T' u slot
  pub moved : mark T' slot ≡ Some true
  pub others : KeepsOtherMarks T T' slot
  pub childless : (l : ℕ) → has_label (node_at t u).children l ≡ true → ⊥
