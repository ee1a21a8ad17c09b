-- The node of the tree at a path, and the slots of its labels and of its number.
use Rattle.std.proofs.Common.{◌≡◌, ℕ, ◌<◌, List, [], ◌∷◌, ◌++◌, sym, ◌∙◌, ap, refl, subst, inl, inr, arith, Some, true, false}
use Rattle.std.specs.Prelude.{ℤ, pos, ◌↔◌, ◌||◌, is_some}
use Rattle.std.proofs.lemmas.Bool.{false≢true}
use Rattle.std.proofs.lemmas.Bool.Decides.{eqb_tells}
use Rattle.cedar_tree.specs.Tree.{Forest, none, child, Tree, has_label, subtree}
use Rattle.cedar_tree.specs.Queries.{node_at}
use Rattle.cedar_tree.specs.Edits.{HasPath}
use Rattle.cedar_model.specs.declared.layout.Stored.TheVariants.{OwnNumber}
use Rattle.cedar_model.specs.Table.Cells.{Cells}
use Rattle.cedar_model.specs.Meaning.Family.{Among, base_of, below, Family, Head, number_of, own, owned_slots, plain, top, valued}
use Rattle.cedar_model.specs.Meaning.StandsFor.{HoldsTree, labels, OnPath, slot_at, Stands}
use Rattle.cedar_model.specs.Edit.NodeEdits.{follow_on, IsAt}
use Rattle.cedar_model.specs.Edit.Steps.{root_of}
use Rattle.cedar_model.proofs.MeaningLemmas.SearchStep.{child_stands, has_among, has_not, root_stands}
use Rattle.cedar_model.proofs.MeaningLemmas.OneNode.{labels_own, owned_label}
use Rattle.cedar_model.proofs.MeaningLemmas.ExclusiveOr.{xor_back}
use Rattle.cedar_model.proofs.MeaningLemmas.OneTree.{no_zero}

pub among_has : (f : Forest) (l : ℕ) → has_label f l ≡ true → Among (labels f) l
among_has none l h = absurd (false≢true h)
among_has (child m n u rest) l h = elim (eqb_tells m l) [
  | inl e ↦ inl e.1
  | inr e ↦ inr (among_has rest l (ap (λ b. b || has_label rest l) (sym e.0) ∙ h))
]

-- the front of a path is a path
pub path_front : (T : Cells) (w q : List ℕ) → OnPath T (follow_on w q) → OnPath T q
path_front T [] q on = on
path_front T (l ∷ w) q on = (path_front T w (l ∷ q) on).2

-- a path that ends with one more label
pub follow_last : (l : ℕ) (w q : List ℕ) → follow_on (w ++ l ∷ []) q ≡ l ∷ follow_on w q
follow_last l [] q = refl
follow_last l (x ∷ w) q = follow_last l w (x ∷ q)

-- from any node on
node_from : (size : ℕ) (T : Cells) (w q : List ℕ) (t : Tree) → OnPath T (follow_on w q) → Stands size T (slot_at T q) t → Stands size T (slot_at T (follow_on w q)) (node_at t w) × HasPath t w
node_from size T [] q t on st = (st, tt)
node_from size T (l ∷ w) q t on st =
    let step = path_front T w (l ∷ q) on in
    let among : Among (labels t.children) l = owned_label size T (slot_at T q) l st.head (labels t.children) st.family step.0 step.1 in
    let rest = node_from size T w (l ∷ q) (subtree t.children l) on (child_stands size T (slot_at T q) t.children l among st.lower) in
    (rest.0, (has_among t.children l among, rest.1))

module _ (size : ℕ) (T : Cells) (f : Forest) (w : List ℕ) (a : ℕ) (h : HoldsTree size T f) (at : IsAt T w a) where
  -- the slot represents the node at its path
  pub at_node : Stands size T a (node_at (root_of f) w)
  at_node = subst (λ s. Stands size T s (node_at (root_of f) w)) at.1 (node_from size T w [] (root_of f) at.0 (root_stands size T f h.stands)).0

  pub at_path : HasPath (root_of f) w
  at_path = (node_from size T w [] (root_of f) at.0 (root_stands size T f h.stands)).1

  -- a label is the node's just where its slot is
  pub at_owned : (l : ℕ) → 0 < l → T.check (below T a l) ≡ pos a → has_label (node_at (root_of f) w).children l ≡ true
  at_owned l p o =
      let st = at_node in
      let u : Forest = (node_at (root_of f) w).children in
      has_among u l (owned_label size T a l st.head (labels u) st.family (λ z. omega (arith, z, p)) o)

  pub at_owner : (l : ℕ) → has_label (node_at (root_of f) w).children l ≡ true → T.check (below T a l) ≡ pos a
  at_owner l e =
      let st = at_node in
      let u : Forest = (node_at (root_of f) w).children in
      labels_own T a st.head (labels u) st.family.begins l (among_has u l e)

  pub at_lacks : (l : ℕ) → (T.check (below T a l) ≡ pos a → ⊥) → has_label (node_at (root_of f) w).children l ≡ false
  at_lacks l n =
      let st = at_node in
      let u : Forest = (node_at (root_of f) w).children in
      has_not u l (λ b. n (labels_own T a st.head (labels u) st.family.begins l b))

  pub at_child : (l : ℕ) → 0 < l → T.check (below T a l) ≡ pos a → IsAt T (w ++ l ∷ []) (below T a l)
  at_child l p o =
      let slot : slot_at T (l ∷ follow_on w []) ≡ below T a l = ap (λ s. below T s l) at.1 in
      let on : OnPath T (l ∷ follow_on w []) = ((λ z. omega (arith, z, p)), ap T.check slot ∙ o ∙ ap pos (sym at.1), at.0) in
      let e = follow_last l w [] in
      (subst (OnPath T) (sym e) on, ap (slot_at T) e ∙ slot)

  -- the node's number is the one in its slot for a number
  pub at_value : T.check (below T a 0) ≡ pos a → (node_at (root_of f) w).number ≡ Some (T.base (below T a 0))
  at_value o = sym at_node.number ∙ by_head at_node.head _ at_node.family
    where
      zero_owned : (hd : Head) (ls : List ℕ) → Family size T a hd ls → Among (owned_slots hd ls) 0
      zero_owned hd ls k = subst (Among (owned_slots hd ls)) (xor_back (base_of T a) 0) (k.only (below T a 0) o)

      by_head : (hd : Head) (ls : List ℕ) → Family size T a hd ls → number_of hd ≡ Some (T.base (below T a 0))
      by_head plain ls k = absurd (no_zero T a _ ls k.begins (zero_owned plain ls k))
      by_head (valued v) ls k = ap Some (sym k.begins.2)
      by_head (own v) ls k = absurd (subst (λ x. Among x 0) k.begins.1 (zero_owned (own v) ls k))
      by_head top ls k = absurd (no_zero T a _ ls k.begins.2 (zero_owned top ls k))

  -- a node that keeps no number in its base field has a number just where that slot is its own
  pub at_number : ((v : ℤ) → T.stored a ≡ OwnNumber v → ⊥) → (is_some (node_at (root_of f) w).number ≡ true) ↔ (T.check (below T a 0) ≡ pos a)
  at_number no_own = (there at_node.head _ at_node.number at_node.family, λ o. ap is_some (at_value o))
    where
      there : (hd : Head) (ls : List ℕ) → number_of hd ≡ (node_at (root_of f) w).number → Family size T a hd ls → is_some (node_at (root_of f) w).number ≡ true → T.check (below T a 0) ≡ pos a
      there plain ls e k y = absurd (false≢true (ap is_some e ∙ y))
      there (valued v) ls e k y = k.begins.1
      there (own v) ls e k y = absurd (no_own v k.based)
      there top ls e k y = absurd (false≢true (ap is_some e ∙ y))
