-- What the slots of a table represent.
use Rattle.std.specs.Prelude.{◌≡◌, ℕ, pos, List, [], ◌∷◌}
use Rattle.cedar_tree.specs.Tree.{Forest, none, child, Tree}
use Rattle.cedar_model.specs.Table.Cells.{Cells}
use Rattle.cedar_model.specs.Meaning.Family.{Head, number_of, top, Family, Node, below}

-- the labels of some siblings
abbrev pub labels : Forest → List ℕ
labels none = []
labels (child l n f rest) = l ∷ labels rest

-- each child that f lists is below slot s, with all that is below it
abbrev pub ChildrenStand : ℕ → Cells → ℕ → Forest → Type 0
ChildrenStand size T s none = Unit {0}
ChildrenStand size T s (child l n f rest) = Node size T (below T s l) n (labels f) × ChildrenStand size T (below T s l) f × ChildrenStand size T s rest

-- slot s represents the tree t: it is a node with the number and the labels of t, in the order of t, and so on at
-- each child
pub record Stands (size : ℕ) (T : Cells) (s : ℕ) (t : Tree) : Type 0 where
  pub head : Head
  pub number : number_of head ≡ t.number
  pub family : Family size T s head (labels t.children)
  pub lower : ChildrenStand size T s t.children

-- the root's slot represents the tree with these children and no number
abbrev pub RootStands : ℕ → Cells → Forest → Type 0
RootStands size T f = Family size T 0 top (labels f) × ChildrenStand size T 0 f

-- the slot at the end of a path from the root, which is given from its last label to its first
abbrev pub slot_at : Cells → List ℕ → ℕ
slot_at T [] = 0
slot_at T (l ∷ p) = below T (slot_at T p) l

-- each slot of the path has the one before it as its check, and no label is 0: so each slot is a node's
abbrev pub OnPath : Cells → List ℕ → Type 0
OnPath T [] = Unit {0}
OnPath T (l ∷ p) = (l ≡ 0 → ⊥) × (T.check (slot_at T (l ∷ p)) ≡ pos (slot_at T p)) × OnPath T p

-- each slot of the path has the one before it as its check. A label may be 0: so the path may lead to the slot of a
-- number
abbrev pub Leads : Cells → List ℕ → Type 0
Leads T [] = Unit {0}
Leads T (l ∷ p) = (T.check (slot_at T (l ∷ p)) ≡ pos (slot_at T p)) × Leads T p

-- the slots hold the tree with the children f
pub record HoldsTree (size : ℕ) (T : Cells) (f : Forest) : Type 0 where
  -- the root's slot represents it
  pub stands : RootStands size T f
  -- the root has no owner
  pub root : (c : ℕ) → T.check 0 ≡ pos c → ⊥
  -- each slot that owns another one is at the end of a path
  pub reached : (q c : ℕ) → T.check q ≡ pos c → (p : List ℕ) × OnPath T p × (slot_at T p ≡ c)
