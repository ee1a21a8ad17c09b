-- A label added at its place is a leaf added to the tree.
use Rattle.std.proofs.Common.{◌≡◌, ℕ, ◌<◌, List, [], ◌∷◌, ◌++◌, sym, ◌∙◌, ap, refl, subst, inl, inr, arith, Bool, true, false, Option}
use Rattle.std.specs.Prelude.{pos}
use Rattle.cedar_tree.specs.Tree.{child, empty_tree, Forest, insert_ascending, IsAscending, none}
use Rattle.cedar_tree.specs.Edits.{add_leaf, edit_at}
use Rattle.cedar_model.specs.Table.Cells.{Cells, Held}
use Rattle.cedar_model.specs.Meaning.Family.{Among, below, Family, Links, Node, number_of, top}
use Rattle.cedar_model.specs.Meaning.StandsFor.{ChildrenStand, HoldsTree, labels, OnPath, slot_at}
use Rattle.cedar_model.specs.Meaning.Reading.{first_in}
use Rattle.cedar_model.specs.Edit.NodeEdits.{AddsFirst, AddsLabel, Ascends, follow_on, HasChain, IsAt, IsPlaceFor, Touches, with_ascending_label}
use Rattle.cedar_model.proofs.EditLemmas.AddBehind.{added_behind, added_behind_at_root, inserted_here, labels_inserted, lower_inserted}
use Rattle.cedar_model.proofs.EditLemmas.AddFirst.{added_at_root, added_first, family_added, leaf, root_added, stays}
use Rattle.cedar_model.proofs.EditLemmas.ChangeAtPath.{edited, follow_split, root_edited}
use Rattle.cedar_model.proofs.EditLemmas.NodeChange.{path_stays}
use Rattle.cedar_model.proofs.MeaningLemmas.OneNode.{owned_label, Subtree}
use Rattle.cedar_model.proofs.MeaningLemmas.OneTree.{links_unique, node_reads}
use Rattle.cedar_model.proofs.MeaningLemmas.NodeAtPath.{follow_last}
use Rattle.cedar_model.proofs.MeaningLemmas.AmongLabels.{above_labels}

labels_ascend : (f : Forest) → IsAscending f → Ascends (labels f)
labels_ascend none s = tt
labels_ascend (child m n below rest) s = above_labels m rest s.0 s.2

-- a node with all below it, whose labels ascend if they are ordered
abbrev OrderedNode : ℕ → Cells → Bool → ℕ → Type 0
OrderedNode size T ordered s = (x : Subtree size T s) × (ordered ≡ true → IsAscending x.children)

ordered_child : (size : ℕ) (T : Cells) (ordered : Bool) (s l : ℕ) (f : Forest) → Among (labels f) l → ChildrenStand size T s f → (ordered ≡ true → IsAscending f) → OrderedNode size T ordered (below T s l)
ordered_child size T ordered s l none a g u = absurd a
ordered_child size T ordered s l (child m n v rest) (inl e) g u = subst (λ x. OrderedNode size T ordered (below T s x)) e (record { number = n; children = v; node = g.0; lower = g.1 }, λ is. (u is).1)
ordered_child size T ordered s l (child m n v rest) (inr a) g u = ordered_child size T ordered s l rest a g.2 (λ is. (u is).2)

ordered_on : (size : ℕ) (T : Cells) (ordered : Bool) (f : Forest) → HoldsTree size T f → (ordered ≡ true → IsAscending f) → (l : ℕ) (p : List ℕ) → OnPath T (l ∷ p) → OrderedNode size T ordered (slot_at T (l ∷ p))
ordered_on size T ordered f w u l [] h =
    ordered_child size T ordered 0 l f (owned_label size T 0 l top (labels f) w.stands.0 h.0 h.1) w.stands.1 u
ordered_on size T ordered f w u l (m ∷ p) h =
    let up = ordered_on size T ordered f w u m p h.2 in
    ordered_child size T ordered (slot_at T (m ∷ p)) l up.0.children (owned_label size T (slot_at T (m ∷ p)) l up.0.node.head (labels up.0.children) up.0.node.family h.0 h.1) up.0.lower up.1

pub below_root : (T : Cells) → ((c : ℕ) → T.check 0 ≡ pos c → ⊥) → (m : ℕ) (p : List ℕ) → OnPath T (m ∷ p) → slot_at T (m ∷ p) ≡ 0 → ⊥
below_root T root m p h z = root _ (ap T.check (sym z) ∙ h.1)

-- each path leads to a node, whose chain ascends if the tree does
pub chain_on : (size : ℕ) (T : Cells) (ordered : Bool) (f : Forest) → HoldsTree size T f → (ordered ≡ true → IsAscending f) → (P : List ℕ) → OnPath T P → HasChain size T ordered (slot_at T P)
chain_on size T ordered f w u [] h = record { head = top; listed = labels f; family = w.stands.0; root = λ _. refl; ascends = λ is. labels_ascend f (u is) }
chain_on size T ordered f w u (m ∷ p) h =
    let x = ordered_on size T ordered f w u m p h in
    record { head = x.0.node.head; listed = labels x.0.children; family = x.0.node.family; root = λ z. absurd (below_root T w.root m p h z); ascends = λ is. labels_ascend x.0.children (x.1 is) }

pub chain_at : (size : ℕ) (T : Cells) (ordered : Bool) (f : Forest) → HoldsTree size T f → (ordered ≡ true → IsAscending f) → (w : List ℕ) (a : ℕ) → IsAt T w a → HasChain size T ordered a
chain_at size T ordered f h u w a at = subst (HasChain size T ordered) at.1 (chain_on size T ordered f h u (follow_on w []) at.0)

-- all readings of a node have its chain's labels
node_ascends : (size : ℕ) (T : Cells) (a : ℕ) → (a ≡ 0 → ⊥) → HasChain size T true a → (n : Option _) (ls : List ℕ) → Node size T a n ls → Ascends ls
node_ascends size T a z k n ls g =
    let one = node_reads size T a (number_of k.head) k.listed z (record { head = k.head; number = refl; family = k.family }) in
    let two = node_reads size T a n ls z g in
    subst Ascends (links_unique T a (first_in T a) k.listed ls one.links two.links) (k.ascends refl)

inserted_first : (T : Cells) (a c l : ℕ) (ls : List ℕ) → Links T a c ls → IsPlaceFor l c → with_ascending_label l ls ≡ l ∷ ls
inserted_first T a c l [] h goes = refl
inserted_first T a c l (m ∷ ms) h (inl z) = absurd (omega (arith, h.0, h.1, z))
inserted_first T a c l (m ∷ ms) h (inr above) = inserted_here l m ms (omega (arith, above, h.0))

-- the path w ends with some label
pub ends : (j : ℕ) (v : List ℕ) → (m : ℕ) × (p : List ℕ) × (follow_on (j ∷ v) [] ≡ m ∷ p)
ends j v = let s = follow_split v (j ∷ []) in by_front s.0 s.1
  where
    by_front : (e : List ℕ) → follow_on v (j ∷ []) ≡ e ++ (j ∷ []) → (m : ℕ) × (p : List ℕ) × (follow_on (j ∷ v) [] ≡ m ∷ p)
    by_front [] h = (j, [], h)
    by_front (x ∷ e) h = (x, e ++ j ∷ [], h)

-- ---- the tree with the new leaf

-- in front of all, where the first label is above
module _ (size : ℕ) (T T' : Cells) (l : ℕ) where
  ascending_first : (f : Forest) (m : ℕ) (p : List ℕ) → HoldsTree size T f → OnPath T (m ∷ p) → AddsFirst size T T' (slot_at T (m ∷ p)) l → IsPlaceFor l (first_in T (slot_at T (m ∷ p)))
      → (j : ℕ) (v : List ℕ) → follow_on (j ∷ v) [] ≡ m ∷ p → HoldsTree size T' (edit_at (j ∷ v) (λ n. n) (λ u. insert_ascending u l empty_tree) f)
  ascending_first f m p w h k goes j v at =
      let a : ℕ = slot_at T (m ∷ p) in
      let z = below_root T w.root m p h in
      edited size T T' f (below T' (slot_at T (m ∷ p)) l) w (stays size T T' a l k) (λ n. n) (λ u. insert_ascending u l empty_tree) m p h k.touches
      (λ n u y same g.
      let reads = node_reads size T a n (labels u) z g in
      let front : with_ascending_label l (labels y) ≡ l ∷ labels u = ap (with_ascending_label l) same ∙ inserted_first T a (first_in T a) l (labels u) reads.links goes in
      record { head = g.head; number = g.number; family = subst (λ ls. Family size T' a g.head ls) (sym (labels_inserted l y ∙ front)) (family_added size T T' a l k g.head (labels u) z g.family) })
      (lower_inserted size T' a l (leaf size T T' a l k)) j v at

  ascending_first_at_root : (f : Forest) → HoldsTree size T f → AddsFirst size T T' 0 l → IsPlaceFor l (T.sibling 0) → HoldsTree size T' (insert_ascending f l empty_tree)
  ascending_first_at_root f w k goes =
      root_edited size T T' f (below T' 0 l) w (stays size T T' 0 l k) (λ u. insert_ascending u l empty_tree) k.touches
      (λ g. subst (λ ls. Family size T' 0 top ls) (sym (labels_inserted l f ∙ inserted_first T 0 (T.sibling 0) l (labels f) g.begins.2 goes)) (root_added size T T' 0 l k (labels f) g))
      (lower_inserted size T' 0 l (leaf size T T' 0 l k) f)

  label_added_below : (ordered : Bool) (f : Forest) (m : ℕ) (p : List ℕ) → HoldsTree size T f → (ordered ≡ true → IsAscending f) → OnPath T (m ∷ p) → AddsLabel size ordered T T' (slot_at T (m ∷ p)) l
      → (j : ℕ) (v : List ℕ) → follow_on (j ∷ v) [] ≡ m ∷ p → HoldsTree size T' (edit_at (j ∷ v) (λ n. n) (add_leaf ordered l) f)
  label_added_below false f m p w u h (inl k) j v at = added_first size T T' f m p l w h k.0 j v at
  label_added_below true f m p w u h (inl k) j v at = ascending_first f m p w h k.0 ((k.1 refl).1 (below_root T w.root m p h)) j v at
  label_added_below true f m p w u h (inr k) j v at =
      added_behind size T T' f m p l w h k.1 (node_ascends size T (slot_at T (m ∷ p)) (below_root T w.root m p h) (chain_on size T true f w u (m ∷ p) h)) j v at
  label_added_below false f m p w u h (inr k) j v at = let no = k.0 in cc

  label_added_at_root : (ordered : Bool) (f : Forest) → HoldsTree size T f → (ordered ≡ true → IsAscending f) → AddsLabel size ordered T T' 0 l → HoldsTree size T' (add_leaf ordered l f)
  label_added_at_root false f w u (inl k) = added_at_root size T T' f l w k.0
  label_added_at_root true f w u (inl k) = ascending_first_at_root f w k.0 ((k.1 refl).0 refl)
  label_added_at_root true f w u (inr k) = added_behind_at_root size T T' f l w k.1 (labels_ascend f (u refl))
  label_added_at_root false f w u (inr k) = let no = k.0 in cc

  -- wherever the node is
  pub label_added : (ordered : Bool) (f : Forest) (w : List ℕ) (a : ℕ) → HoldsTree size T f → (ordered ≡ true → IsAscending f) → IsAt T w a → AddsLabel size ordered T T' a l → HoldsTree size T' (edit_at w (λ n. n) (add_leaf ordered l) f)
  label_added ordered f [] a h u at k = label_added_at_root ordered f h u (subst (λ s. AddsLabel size ordered T T' s l) (sym at.1) k)
  label_added ordered f (j ∷ v) a h u at k =
      let e = ends j v in
      label_added_below ordered f e.0 e.1 h u (subst (OnPath T) e.2 at.0)
      (subst (λ s. AddsLabel size ordered T T' s l) (sym at.1 ∙ ap (slot_at T) e.2) k) j v e.2

-- ---- the paths

label_touches : (size : ℕ) (T T' : Cells) (ordered : Bool) (a l : ℕ) → AddsLabel size ordered T T' a l → Touches T T' a (below T' a l) × (Held T (below T' a l) → ⊥) × (T'.check (below T' a l) ≡ pos a) × (0 < l)
label_touches size T T' ordered a l (inl k) = (k.0.touches, k.0.free, k.0.taken, k.0.positive)
label_touches size T T' ordered a l (inr k) = (k.1.touches, k.1.free, k.1.taken, k.1.positive)

pub held_on : (T : Cells) (p : List ℕ) → OnPath T p → Held T (slot_at T p)
held_on T [] h = inl refl
held_on T (m ∷ p) h = inr (slot_at T p, h.1)

module _ (size : ℕ) (T T' : Cells) (ordered : Bool) (f : Forest) (a l : ℕ) (k : AddsLabel size ordered T T' a l) (h : HoldsTree size T f) (w : List ℕ) (at : IsAt T w a) where
  paths_there : (p : List ℕ) → OnPath T p → OnPath T' p × (slot_at T' p ≡ slot_at T p)
  paths_there p on =
      let t = label_touches size T T' ordered a l k in
      path_stays size T T' f (follow_on w []) (below T' a l) h at.0 (subst (λ s. Touches T T' s (below T' a l)) (sym at.1) t.0) p on (λ e. t.1 (subst (Held T) e (held_on T p on)))

  -- each path leads where it led
  pub paths_stay : (v : List ℕ) (s : ℕ) → IsAt T v s → IsAt T' v s
  paths_stay v s on = let there = paths_there (follow_on v []) on.0 in (there.0, there.1 ∙ on.1)

  -- and one leads to the new leaf
  pub path_of_leaf : IsAt T' (w ++ l ∷ []) (below T' a l)
  path_of_leaf =
      let t = label_touches size T T' ordered a l k in
      let there = paths_there (follow_on w []) at.0 in
      let node : slot_at T' (follow_on w []) ≡ a = there.1 ∙ at.1 in
      let slot : slot_at T' (l ∷ follow_on w []) ≡ below T' a l = ap (λ s. below T' s l) node in
      let on : OnPath T' (l ∷ follow_on w []) = ((λ z. omega (arith, z, t.3)), ap T'.check slot ∙ t.2 ∙ ap pos (sym node), there.0) in
      let e = follow_last l w [] in
      (subst (OnPath T') (sym e) on, ap (slot_at T') e ∙ slot)
