-- A bare node taken away below the node that owns it.
use Rattle.std.proofs.Common.{◌≡◌, ◌⊎◌, ℕ, ◌<◌, List, [], ◌∷◌, ◌++◌, sym, ◌∙◌, ap, refl, subst, inl, inr, None, true, false, cond}
use Rattle.std.specs.Prelude.{pos, bit_xor}
use Rattle.std.proofs.lemmas.Bool.Decides.{eqb_tells}
use Rattle.cedar_tree.specs.Tree.{child, empty_tree, Forest, has_label, is_bare, none, Tree, without}
use Rattle.cedar_tree.specs.Queries.{node_at}
use Rattle.cedar_tree.specs.Edits.{without_leaf}
use Rattle.cedar_tree.proofs.TreeLemmas.{bare_empty}
use Rattle.cedar_model.specs.Table.Cells.{Cells}
use Rattle.cedar_model.specs.Meaning.Family.{Among, base_of, below, Node}
use Rattle.cedar_model.specs.Meaning.StandsFor.{HoldsTree, labels, OnPath, slot_at, Stands}
use Rattle.cedar_model.specs.Edit.NodeEdits.{follow_on, IsAt, Removes}
use Rattle.cedar_model.specs.Edit.Steps.{root_of}
use Rattle.cedar_model.specs.Edit.Trims.{LosesLeaf}
use Rattle.cedar_model.proofs.EditLemmas.AtPath.{not_own_owner, paths_touched}
use Rattle.cedar_model.proofs.MeaningLemmas.NodeAtPath.{at_node, follow_last}
use Rattle.cedar_model.proofs.MeaningLemmas.SearchStep.{has_not}
use Rattle.cedar_model.proofs.RelocationLemmas.Movable.{owned_small}
use Rattle.cedar_model.proofs.MeaningLemmas.OneNode.{DistinctList}
use Rattle.cedar_model.proofs.MeaningLemmas.ExclusiveOr.{pos_injective, xor_back}
use Rattle.cedar_model.proofs.MeaningLemmas.OneTree.{family_distinct}

-- a path is empty or ends with a label
by_last : (w : List ℕ) → (w ≡ []) ⊎ ((p : List ℕ) × (l : ℕ) × (w ≡ p ++ l ∷ []))
by_last [] = inl refl
by_last (x ∷ w) = elim (by_last w) [
  | inl e ↦ inr ([], x, ap (λ v. x ∷ v) e)
  | inr r ↦ inr (x ∷ r.0, r.1, ap (λ v. x ∷ v) r.2)
]

-- the node at the end of the path w, at slot a, is the one under label l of the node at slot c
pub record Above (T : Cells) (w : List ℕ) (a c l : ℕ) : Type 0 where
  pub path : List ℕ
  pub is : w ≡ path ++ l ∷ []
  pub at : IsAt T path c
  pub slot : below T c l ≡ a
  pub not_zero : l ≡ 0 → ⊥

pub above : (T : Cells) (w : List ℕ) (a c l : ℕ) → ((x : ℕ) → T.check 0 ≡ pos x → ⊥) → IsAt T w a → T.check a ≡ pos c → l ≡ bit_xor (base_of T c) a → Above T w a c l
above T w a c l root at o e = elim (by_last w) [
  | inl z ↦ let here : IsAt T [] a = subst (λ v. IsAt T v a) z at in absurd (root c (ap T.check here.1 ∙ o))
  | inr r ↦ by_label r.0 r.1 r.2
] where
  by_label : (p : List ℕ) (m : ℕ) → w ≡ p ++ m ∷ [] → Above T w a c l
  by_label p m is =
      let last : follow_on w [] ≡ m ∷ follow_on p [] = ap (λ v. follow_on v []) is ∙ follow_last m p [] in
      let on : OnPath T (m ∷ follow_on p []) = subst (OnPath T) last at.0 in
      let slot : below T (slot_at T (follow_on p [])) m ≡ a = sym (ap (slot_at T) last) ∙ at.1 in
      let owner : slot_at T (follow_on p []) ≡ c = pos_injective _ _ (sym on.1 ∙ ap T.check slot ∙ o) in
      let mine : below T c m ≡ a = ap (λ s. below T s m) (sym owner) ∙ slot in
      let same : m ≡ l = sym (xor_back (base_of T c) m) ∙ ap (bit_xor (base_of T c)) mine ∙ sym e in
      record {
        path = p;
        is = is ∙ ap (λ x. p ++ x ∷ []) same;
        at = (on.2, owner);
        slot = subst (λ x. below T c x ≡ a) same mine;
        not_zero = subst (λ x. x ≡ 0 → ⊥) same on.0;
      }

-- a node below the root has an owner
pub has_owner : (T : Cells) (w : List ℕ) (a : ℕ) → (a ≡ 0 → ⊥) → IsAt T w a → (c : ℕ) × (T.check a ≡ pos c)
has_owner T w a n at = by_path (follow_on w []) at.0 at.1
  where
    by_path : (p : List ℕ) → OnPath T p → slot_at T p ≡ a → (c : ℕ) × (T.check a ≡ pos c)
    by_path [] on e = absurd (n (sym e))
    by_path (l ∷ p) on e = (slot_at T p, ap T.check (sym e) ∙ on.1)

-- a node's slot is in use
pub node_inside : (size : ℕ) (T : Cells) → ((q c : ℕ) → T.check q ≡ pos c → q < size) → 0 < size → (w : List ℕ) (a : ℕ) → IsAt T w a → a < size
node_inside size T active some w a at = subst (λ s. s < size) at.1 (by_path (follow_on w []) at.0)
  where
    by_path : (p : List ℕ) → OnPath T p → slot_at T p < size
    by_path [] on = some
    by_path (l ∷ p) on = active _ _ on.1

pub label_small : (size : ℕ) (T : Cells) (f : Forest) (w : List ℕ) (c a : ℕ) → HoldsTree size T f → IsAt T w c → T.check a ≡ pos c → bit_xor (base_of T c) a < 256
label_small size T f w c a h at o =
    let st = at_node size T f w c h at in
    owned_small T c st.head (labels (node_at (root_of f) w).children) st.family.begins _ (st.family.only a o)

pub bare_node : (size : ℕ) (T : Cells) (s : ℕ) (t : Tree) → Stands size T s t → is_bare t ≡ true → Node size T s None []
bare_node size T s t st e =
    let k : Stands size T s empty_tree = subst (Stands size T s) (bare_empty t e) st in
    record { head = k.head; number = k.number; family = k.family }

pub label_read : (T : Cells) (b c a : ℕ) → b ≡ base_of T c → bit_xor b a ≡ bit_xor (base_of T c) a
label_read T b c a e = ap (λ x. bit_xor x a) e

-- what remove_label leaves
pub loses_leaf : (size : ℕ) (T T' : Cells) (f : Forest) (w : List ℕ) (a c l : ℕ) → HoldsTree size T f → IsAt T w a → T.check a ≡ pos c → l ≡ bit_xor (base_of T c) a → Removes size T T' c l
    → ((v : List ℕ) → IsAt T v c → HoldsTree size T' (without_leaf (root_of f) v l).children) → LosesLeaf size T' f w c
loses_leaf size T T' f w a c l h at o e k holds =
    let up = above T w a c l h.root at o e in
    let apart : c ≡ below T c l → ⊥ = λ z. not_own_owner T up.path c h.root up.at (ap T.check (z ∙ up.slot) ∙ o) in
    record {
      path = up.path;
      label = l;
      is = up.is;
      holds = holds up.path up.at;
      at = paths_touched size T T' f up.path c (below T c l) h up.at k.touches up.path c up.at apart;
    }

-- ---- labels that come once
without_once : (f : Forest) (l : ℕ) → DistinctList (labels f) → Among (labels (without f l)) l → ⊥
without_once none l d a = a
without_once (child x n u rest) l d a = elim (eqb_tells x l) [
  | inl e ↦ d.0 (subst (Among (labels rest)) (sym e.1) (subst (λ b. Among (labels (cond b rest (child x n u (without rest l)))) l) e.0 a))
  | inr e ↦ later (without_once rest l d.1) e.1 (subst (λ b. Among (labels (cond b rest (child x n u (without rest l)))) l) e.0 a)
] where
  later : (Among (labels (without rest l)) l → ⊥) → (x ≡ l → ⊥) → Among (x ∷ labels (without rest l)) l → ⊥
  later none_later m (inl e) = m e
  later none_later m (inr i) = none_later i

pub label_gone : (size : ℕ) (T : Cells) (s : ℕ) (t : Tree) (l : ℕ) → Stands size T s t → has_label (without t.children l) l ≡ false
label_gone size T s t l st = has_not (without t.children l) l (without_once t.children l (family_distinct size T s st.head (labels t.children) st.family))
