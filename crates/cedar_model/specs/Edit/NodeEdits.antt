-- An edit of one node of a tree, and of its own slots in a table.
use Rattle.std.specs.Prelude.{◌≡◌, ℕ, Bool, true, ℤ, ◌<◌, List, [], ◌∷◌, pos, Option}
use Rattle.std.specs.Prelude.{MatchOption, None, ◌⊎◌, cond, nat_eq, nat_lt}
use Rattle.cedar_tree.specs.Tree.{Forest, IsAscending, none, child}
use Rattle.cedar_model.specs.declared.layout.Stored.TheVariants.{AtBase, OwnNumber}
use Rattle.cedar_model.specs.Table.Cells.{Cells, Held}
use Rattle.cedar_model.specs.Meaning.Family.{below, Family, Head, InRange, top}
use Rattle.cedar_model.specs.Meaning.StandsFor.{HoldsTree, OnPath, slot_at}
use Rattle.cedar_model.specs.Meaning.Reading.{first_in}

-- the siblings below slot s, with the number and the children of the node at slot a changed by two functions
abbrev pub edit : Cells → ℕ → (Option ℤ → Option ℤ) → (Forest → Forest) → ℕ → Forest → Forest
edit T a number children s none = none
edit T a number children s (child l n u rest) =
    child l (cond (nat_eq (below T s l) a) (number n) n)
    (cond (nat_eq (below T s l) a) (children (edit T a number children (below T s l) u)) (edit T a number children (below T s l) u))
    (edit T a number children s rest)

-- the path w, first label first, followed down from the path q
abbrev pub follow_on : List ℕ → List ℕ → List ℕ
follow_on [] q = q
follow_on (l ∷ w) q = follow_on w (l ∷ q)

-- T' differs from T only in slot a, and in slots that a owns, of which x was taken, given back or overwritten
pub record Touches (T T' : Cells) (a x : ℕ) : Type 0 where
  -- the other nodes: each slot of theirs has what it had
  pub base : (q : ℕ) → Held T q → (q ≡ a → ⊥) → (q ≡ x → ⊥) → T'.base q ≡ T.base q
  pub stored : (q : ℕ) → Held T q → (q ≡ a → ⊥) → (q ≡ x → ⊥) → T'.stored q ≡ T.stored q
  pub child : (q : ℕ) → Held T q → (q ≡ a → ⊥) → (q ≡ x → ⊥) → T'.child q ≡ T.child q
  pub sibling : (q c : ℕ) → T.check q ≡ pos c → (c ≡ a → ⊥) → T'.sibling q ≡ T.sibling q
  pub check : (q c : ℕ) → T.check q ≡ pos c → (c ≡ a → ⊥) → T'.check q ≡ pos c
  pub back : (q c : ℕ) → T'.check q ≡ pos c → (c ≡ a → ⊥) → T.check q ≡ pos c
  pub root : (0 ≡ a → ⊥) → T'.sibling 0 ≡ T.sibling 0
  -- slot a: its base is as it was if it owned a slot, and of its slots only x may have come or gone
  pub place : (q : ℕ) → T.check q ≡ pos a → T'.stored a ≡ T.stored a
  pub mine : (q : ℕ) → T.check q ≡ pos a → (q ≡ x → ⊥) → T'.check q ≡ pos a
  pub only : (q : ℕ) → T'.check q ≡ pos a → (T.check q ≡ pos a) ⊎ (q ≡ x)
  -- slot x: it owns nothing, isn't the root's, and is a's or nobody's
  pub alone : (q : ℕ) → T.check q ≡ pos x → ⊥
  pub owner : (c : ℕ) → T.check x ≡ pos c → c ≡ a
  pub not_root : x ≡ 0 → ⊥

-- a new leaf in front of all siblings
abbrev pub add_first : ℕ → Forest → Forest
add_first l f = child l None none f

-- slot a has a new leaf at label l, in front of its other labels
pub record AddsFirst (size : ℕ) (T T' : Cells) (a l : ℕ) : Type 0 where
  pub touches : Touches T T' a (below T' a l)
  pub positive : 0 < l
  pub small : l < 256
  pub shared : (v : ℤ) → T.stored a ≡ OwnNumber v → ⊥
  pub low : a ≡ 0 → T'.stored a ≡ AtBase 0
  pub in_range : (a ≡ 0 → ⊥) → InRange size (T'.stored a)
  pub free : Held T (below T' a l) → ⊥
  pub taken : T'.check (below T' a l) ≡ pos a
  pub leaf : T'.stored (below T' a l) ≡ AtBase 0
  pub leaf_child : T'.child (below T' a l) ≡ 0
  pub leaf_alone : (q : ℕ) → T'.check q ≡ pos (below T' a l) → ⊥
  pub next : (q : ℕ) → T.check q ≡ pos a → (q ≡ below T a 0 → ⊥) → T'.sibling q ≡ T.sibling q
  pub at_root : a ≡ 0 → (T'.child a ≡ T.child a) × (T'.sibling a ≡ l) × (T'.sibling (below T' a l) ≡ T.sibling a)
  pub at_node : (a ≡ 0 → ⊥) → (T.check (below T a 0) ≡ pos a → ⊥) → (T'.child a ≡ l) × (T'.sibling (below T' a l) ≡ T.child a)
  pub at_number : T.check (below T a 0) ≡ pos a → (T'.child a ≡ T.child a) × (T'.base (below T a 0) ≡ T.base (below T a 0)) × (T'.child (below T a 0) ≡ T.child (below T a 0)) × (T'.sibling (below T a 0) ≡ l) × (T'.sibling (below T' a l) ≡ T.sibling (below T a 0))

-- the number v of slot a was set in a slot of its own, a new one or the one that it had
pub record SetsNumber (size : ℕ) (T T' : Cells) (a : ℕ) (v : ℤ) : Type 0 where
  pub touches : Touches T T' a (below T' a 0)
  pub in_range : InRange size (T'.stored a)
  pub taken : T'.check (below T' a 0) ≡ pos a
  pub value : T'.base (below T' a 0) ≡ v
  pub leaf_child : T'.child (below T' a 0) ≡ 0
  pub through : T'.child a ≡ 0
  pub first : T'.sibling (below T' a 0) ≡ first_in T a
  pub next : (q : ℕ) → T.check q ≡ pos a → (q ≡ below T a 0 → ⊥) → T'.sibling q ≡ T.sibling q

-- the number of slot a was taken away, and its slot given back
pub record DropsNumber (size : ℕ) (T T' : Cells) (a : ℕ) : Type 0 where
  pub touches : Touches T T' a (below T a 0)
  pub in_range : InRange size (T'.stored a)
  pub was : T.check (below T a 0) ≡ pos a
  pub gone : T'.check (below T a 0) ≡ pos a → ⊥
  pub first : T'.child a ≡ T.sibling (below T a 0)
  pub next : (q : ℕ) → T.check q ≡ pos a → (q ≡ below T a 0 → ⊥) → T'.sibling q ≡ T.sibling q

-- the labels without l
abbrev pub without_label : ℕ → List ℕ → List ℕ
without_label l [] = []
without_label l (m ∷ ms) = cond (nat_eq m l) ms (m ∷ without_label l ms)

-- slot a has lost the leaf at label l, which had no number. What named l names what came after it
pub record Removes (size : ℕ) (T T' : Cells) (a l : ℕ) : Type 0 where
  pub touches : Touches T T' a (below T a l)
  pub positive : l ≡ 0 → ⊥
  pub was : T.check (below T a l) ≡ pos a
  pub gone : (c : ℕ) → T'.check (below T a l) ≡ pos c → ⊥
  pub no_number : (v : ℤ) → T.stored (below T a l) ≡ OwnNumber v → ⊥
  pub next : (q : ℕ) → T.check q ≡ pos a → (q ≡ below T a l → ⊥) → T'.sibling q ≡ cond (nat_eq (T.sibling q) l) (T.sibling (below T a l)) (T.sibling q)
  pub at_root : a ≡ 0 → T'.sibling a ≡ cond (nat_eq (T.sibling a) l) (T.sibling (below T a l)) (T.sibling a)
  pub first : T'.child a ≡ cond (nat_eq (T.child a) l) (T.sibling (below T a l)) (T.child a)
  pub number : T.check (below T a 0) ≡ pos a → (T'.base (below T a 0) ≡ T.base (below T a 0)) × (T'.child (below T a 0) ≡ T.child (below T a 0))

-- the ascending labels with l at its place
abbrev pub with_ascending_label : ℕ → List ℕ → List ℕ
with_ascending_label l [] = l ∷ []
with_ascending_label l (m ∷ ms) = cond (nat_lt l m) (l ∷ m ∷ ms) (m ∷ with_ascending_label l ms)

-- the labels ascend, and the first one is above b
abbrev pub Above : ℕ → List ℕ → Type 0
Above b [] = Unit {0}
Above b (m ∷ ms) = (b < m) × Above m ms

-- a chain goes on with labels above l, or ends
abbrev pub IsPlaceFor : ℕ → ℕ → Type 0
IsPlaceFor l c = (c ≡ 0) ⊎ (l < c)

-- slot a has a new leaf at label l, behind its labels below l: the link to what is above l leads to l, and l's own
-- link goes on from there
pub record AddsBehind (size : ℕ) (T T' : Cells) (a l : ℕ) : Type 0 where
  pub touches : Touches T T' a (below T' a l)
  pub positive : 0 < l
  pub small : l < 256
  pub same_place : T'.stored a ≡ T.stored a
  pub free : Held T (below T' a l) → ⊥
  pub taken : T'.check (below T' a l) ≡ pos a
  pub leaf : T'.stored (below T' a l) ≡ AtBase 0
  pub leaf_child : T'.child (below T' a l) ≡ 0
  pub leaf_alone : (q : ℕ) → T'.check q ≡ pos (below T' a l) → ⊥
  -- the chain begins as before, below l
  pub at_root : a ≡ 0 → (T'.sibling a ≡ T.sibling a) × (T.sibling a ≡ 0 → ⊥) × (T.sibling a < l)
  pub child_same : T'.child a ≡ T.child a
  pub at_node : (a ≡ 0 → ⊥) → (T.check (below T a 0) ≡ pos a → ⊥) → (T.child a ≡ 0 → ⊥) × (T.child a < l)
  pub at_number : T.check (below T a 0) ≡ pos a → (T'.base (below T a 0) ≡ T.base (below T a 0)) × (T'.child (below T a 0) ≡ T.child (below T a 0)) × (T'.sibling (below T a 0) ≡ T.sibling (below T a 0)) × (T.sibling (below T a 0) ≡ 0 → ⊥) × (T.sibling (below T a 0) < l)
  -- the labels of a's chain below l name what they named, but for the one right before l
  pub before : (m : ℕ) → T.check (below T a m) ≡ pos a → 0 < m → m < l → (T.sibling (below T a m) ≡ 0 → ⊥) → T.sibling (below T a m) < l → T'.sibling (below T a m) ≡ T.sibling (below T a m)
  pub here : (m : ℕ) → T.check (below T a m) ≡ pos a → 0 < m → m < l → IsPlaceFor l (T.sibling (below T a m)) → (T'.sibling (below T a m) ≡ l) × (T'.sibling (below T' a l) ≡ T.sibling (below T a m))
  pub after : (m : ℕ) → T.check (below T a m) ≡ pos a → l < m → T'.sibling (below T a m) ≡ T.sibling (below T a m)

-- label l can come below slot a: the base of a has a free slot for it
pub record CanAdd (size : ℕ) (T : Cells) (a l : ℕ) : Type 0 where
  pub held : Held T a
  pub positive : 0 < l
  pub small : l < 256
  pub low : a ≡ 0 → T.stored a ≡ AtBase 0
  pub in_range : (a ≡ 0 → ⊥) → InRange size (T.stored a)
  pub free : Held T (below T a l) → ⊥
  pub alone : (q : ℕ) → T.check q ≡ pos (below T a l) → ⊥
  pub root : (c : ℕ) → T.check 0 ≡ pos c → ⊥
  pub not_own : T.check a ≡ pos a → ⊥

-- slot x with label l comes right after slot b in its chain now, and nothing else has changed
pub record LinkedBehind (T T' : Cells) (b x l : ℕ) : Type 0 where
  pub stored : (q : ℕ) → T'.stored q ≡ T.stored q
  pub base : (q : ℕ) → T'.base q ≡ T.base q
  pub check : (q : ℕ) → T'.check q ≡ T.check q
  pub child : (q : ℕ) → T'.child q ≡ T.child q
  pub at : T'.sibling b ≡ l
  pub next : T'.sibling x ≡ T.sibling b
  pub other : (q : ℕ) → (q ≡ b → ⊥) → (q ≡ x → ⊥) → T'.sibling q ≡ T.sibling q

-- slot x with label l comes first in a's chain now, by the field `child` of slot a, and nothing else has changed
pub record LinkedChild (T T' : Cells) (a x l : ℕ) : Type 0 where
  pub stored : (q : ℕ) → T'.stored q ≡ T.stored q
  pub base : (q : ℕ) → T'.base q ≡ T.base q
  pub check : (q : ℕ) → T'.check q ≡ T.check q
  pub at : T'.child a ≡ l
  pub child : (q : ℕ) → (q ≡ a → ⊥) → T'.child q ≡ T.child q
  pub next : T'.sibling x ≡ T.child a
  pub other : (q : ℕ) → (q ≡ x → ⊥) → T'.sibling q ≡ T.sibling q

-- slot x with label l is in a's chain now, right behind the slot `before` or, without one, first of all, and nothing else has changed
abbrev pub LinksIn : Cells → Cells → Option ℕ → ℕ → ℕ → ℕ → Type 0
LinksIn T T' before a x l = MatchOption before (LinkedChild T T' a x l) (λ b. LinkedBehind T T' b x l)

-- the labels ascend
abbrev pub Ascends : List ℕ → Type 0
Ascends [] = Unit {0}
Ascends (m ∷ ms) = Above m ms

-- the label after the one of slot q is l, and nothing else has changed
pub record SetsSibling (T T' : Cells) (q l : ℕ) : Type 0 where
  pub stored : (x : ℕ) → T'.stored x ≡ T.stored x
  pub base : (x : ℕ) → T'.base x ≡ T.base x
  pub check : (x : ℕ) → T'.check x ≡ T.check x
  pub child : (x : ℕ) → T'.child x ≡ T.child x
  pub at : T'.sibling q ≡ l
  pub other : (x : ℕ) → (x ≡ q → ⊥) → T'.sibling x ≡ T.sibling x

-- the label that begins the chain of slot q is l, and nothing else has changed
pub record SetsChild (T T' : Cells) (q l : ℕ) : Type 0 where
  pub stored : (x : ℕ) → T'.stored x ≡ T.stored x
  pub base : (x : ℕ) → T'.base x ≡ T.base x
  pub check : (x : ℕ) → T'.check x ≡ T.check x
  pub sibling : (x : ℕ) → T'.sibling x ≡ T.sibling x
  pub at : T'.child q ≡ l
  pub other : (x : ℕ) → (x ≡ q → ⊥) → T'.child x ≡ T.child x

-- the labels of the path w, the first one first, lead from the root to slot s
abbrev pub IsAt : Cells → List ℕ → ℕ → Type 0
IsAt T w s = OnPath T (follow_on w []) × (slot_at T (follow_on w []) ≡ s)

-- slot a is at the end of a path, in slots that hold the tree with the children f, whose labels ascend if they are
-- ordered
pub record IsNodeOf (size : ℕ) (T : Cells) (ordered : Bool) (f : Forest) (a : ℕ) : Type 0 where
  pub holds : HoldsTree size T f
  pub ascending : ordered ≡ true → IsAscending f
  pub path : List ℕ
  pub at : IsAt T path a

-- slot a is a node, the root if it is slot 0, and its labels ascend if they are ordered
pub record HasChain (size : ℕ) (T : Cells) (ordered : Bool) (a : ℕ) : Type 0 where
  pub head : Head
  pub listed : List ℕ
  pub family : Family size T a head listed
  pub root : a ≡ 0 → head ≡ top
  pub ascends : ordered ≡ true → Ascends listed

-- slot b is the one that names the first label of a: the root's own slot, or that of a's number
abbrev pub IsLead : Cells → ℕ → ℕ → Type 0
IsLead T a b = ((a ≡ 0) × (b ≡ 0)) ⊎ ((T.check (below T a 0) ≡ pos a) × (b ≡ below T a 0))

-- slot b is the slot of label m of slot a
pub record IsLabelOf (T : Cells) (a m b : ℕ) : Type 0 where
  pub positive : 0 < m
  pub small : m < 256
  pub owner : T.check b ≡ pos a
  pub is : b ≡ below T a m

-- slot b is in a's chain before a label l that is put behind it: the chain begins there, or it is a smaller label's
-- in an ordered table
abbrev pub IsBehind : Cells → Bool → ℕ → ℕ → ℕ → Type 0
IsBehind T ordered a l b = IsLead T a b ⊎ ((ordered ≡ true) × (m : ℕ) × (m < l) × IsLabelOf T a m b)

-- label l comes right behind slot b in a's chain
pub record GoesBehind (size : ℕ) (T : Cells) (ordered : Bool) (a l b : ℕ) : Type 0 where
  pub inside : b < size
  pub behind : IsBehind T ordered a l b
  pub place : ordered ≡ true → IsPlaceFor l (T.sibling b)

-- label l comes first in the chain of slot a, which has no number
pub record GoesFirst (T : Cells) (ordered : Bool) (a l : ℕ) : Type 0 where
  pub not_root : a ≡ 0 → ⊥
  pub no_number : T.check (below T a 0) ≡ pos a → ⊥
  pub place : ordered ≡ true → IsPlaceFor l (T.child a)

-- P holds of the label that slot a's chain begins with, or of 0 if it has none
abbrev pub FirstIs : Cells → ℕ → (ℕ → Type 0) → Type 0
FirstIs T a P = (a ≡ 0 → P (T.sibling a)) × ((a ≡ 0 → ⊥) → P (first_in T a))

-- slot a has a new leaf at label l: at its ascending place if ordered, and first if not
abbrev pub AddsLabel : ℕ → Bool → Cells → Cells → ℕ → ℕ → Type 0
AddsLabel size ordered T T' a l =
    (AddsFirst size T T' a l × (ordered ≡ true → FirstIs T a (IsPlaceFor l))) ⊎ ((ordered ≡ true) × AddsBehind size T T' a l)

-- slot b is in a's chain: before all labels, or it is a label's slot
abbrev pub IsLink : Cells → ℕ → ℕ → Type 0
IsLink T a b = IsLead T a b ⊎ ((m : ℕ) × IsLabelOf T a m b)

-- slot b comes right before label l in a's chain
pub record LeadsTo (size : ℕ) (T : Cells) (a l b : ℕ) : Type 0 where
  pub inside : b < size
  pub link : IsLink T a b
  pub next : T.sibling b ≡ l
