-- A whole tree under a renaming of slots: the same tree, and each path's slot renamed.
use Rattle.std.proofs.Common.{◌≡◌, ℕ, ◌≤◌, List, [], ◌∷◌, sym, ◌∙◌, ap, refl, subst, inl, inr, arith}
use Rattle.std.specs.Prelude.{pos, bit_xor}
use Rattle.cedar_tree.specs.Tree.{Forest, none, child}
use Rattle.cedar_model.specs.declared.layout.Stored.{Stored}
use Rattle.cedar_model.specs.Table.Cells.{Cells, Held, SameHeld}
use Rattle.cedar_model.specs.Meaning.Family.{base_in, below, Head, plain, valued, own, top, Among, Based, Family}
use Rattle.cedar_model.specs.Meaning.StandsFor.{labels, ChildrenStand, RootStands, slot_at, OnPath, HoldsTree}
use Rattle.cedar_model.specs.Relocation.Renaming.{KeepsNodes, Renamed}
use Rattle.cedar_model.proofs.RelocationLemmas.CarriedNode.{Carries, family_carried}
use Rattle.cedar_model.proofs.MeaningLemmas.OneNode.{labels_own, node_labels_own}

children_kept : (size size' : ℕ) (T T' : Cells) (r : ℕ → ℕ) → KeepsNodes size size' T T' r → (s : ℕ) (f : Forest) → ((l : ℕ) → Among (labels f) l → T.check (below T s l) ≡ pos s) → ChildrenStand size T s f → ChildrenStand size' T' (r s) f
children_kept size size' T T' r k s none mine g = tt
children_kept size size' T T' r k s (child l n f rest) mine g =
    let here : T.check (below T s l) ≡ pos s = mine l (inl refl) in
    let e : r (below T s l) ≡ below T' (r s) l = k.steps s l here in (
      record { head = g.0.head; number = g.0.number; family = subst (λ x. Family size' T' x g.0.head (labels f)) e (k.node s (below T s l) g.0.head (labels f) here g.0.family) },
      subst (λ x. ChildrenStand size' T' x f) e (children_kept size size' T T' r k (below T s l) f (node_labels_own size T (below T s l) n (labels f) g.0) g.1),
      children_kept size size' T T' r k s rest (λ x a. mine x (inr a)) g.2,
    )

-- the same tree is in both tables
pub stands_kept : (size size' : ℕ) (T T' : Cells) (r : ℕ → ℕ) → KeepsNodes size size' T T' r → (f : Forest) → RootStands size T f → RootStands size' T' f
stands_kept size size' T T' r k f st = (
  k.root (labels f) st.0,
  subst (λ x. ChildrenStand size' T' x f) k.root_stays (children_kept size size' T T' r k 0 f (labels_own T 0 top (labels f) st.0.begins) st.1),
)

module _ (size size' : ℕ) (T T' : Cells) (r : ℕ → ℕ) (k : Renamed size size' T T' r) where
  pub path_kept : (w : List ℕ) → OnPath T w → OnPath T' w × (slot_at T' w ≡ r (slot_at T w))
  path_kept [] h = (tt, sym k.keeps.root_stays)
  path_kept (l ∷ w) h =
      let up = path_kept w h.2 in
      let at : slot_at T' (l ∷ w) ≡ r (slot_at T (l ∷ w)) = ap (λ s. below T' s l) up.1 ∙ sym (k.keeps.steps (slot_at T w) l h.1) in
      ((h.0, ap T'.check at ∙ k.check _ _ h.1 ∙ ap pos (sym up.1), up.0), at)

  -- the slots represent the same tree
  pub holds_renamed : (f : Forest) → HoldsTree size T f → HoldsTree size' T' f
  holds_renamed f w = record {
    stands = stands_kept size size' T T' r k.keeps f w.stands;
    root = k.root;
    reached = λ q d e.
        let v = k.back q d e in
        let way = w.reached v.0 v.1 v.2 in
        let kept = path_kept way.0 way.1 in
        (way.0, kept.0, kept.1 ∙ ap r way.2 ∙ v.4);
  }

-- ---- a table that has more free slots

based_more : (size size' : ℕ) (st : Stored) (h : Head) (ls : List ℕ) → size ≤ size' → Based size st h ls → Based size' st h ls
based_more size size' st plain [] m b = elim b [ inl e ↦ inl e | inr i ↦ inr (i.0, omega (arith, i.1)) ]
based_more size size' st plain (l ∷ ls) m b = (b.0, omega (arith, b.1))
based_more size size' st (valued v) ls m b = (b.0, omega (arith, b.1))
based_more size size' st (own v) ls m b = b
based_more size size' st top ls m b = b

family_more : (size size' : ℕ) (T : Cells) (s : ℕ) (h : Head) (ls : List ℕ) → size ≤ size' → Family size T s h ls → Family size' T s h ls
family_more size size' T s h ls m f = record { based = based_more size size' (T.stored s) h ls m f.based; begins = f.begins; only = f.only }

module _ (size size' : ℕ) (T T' : Cells) (more : size ≤ size') (k : SameHeld T T') (root : (c : ℕ) → T.check 0 ≡ pos c → ⊥) (owners : (q c : ℕ) → T.check q ≡ pos c → Held T c) where
  same_check : (q c : ℕ) → T.check q ≡ pos c → T'.check q ≡ pos c
  same_check q c e = (k.other q (inr (c, e))).check ∙ e

  check_before : (q c : ℕ) → T'.check q ≡ pos c → T.check q ≡ pos c
  check_before q c e = sym (k.other q (k.free q (inr (c, e)))).check ∙ e

  steps_same : (s l : ℕ) → T.check (below T s l) ≡ pos s → below T s l ≡ below T' s l
  steps_same s l o = ap (λ x. bit_xor (base_in x) l) (sym (k.other s (owners _ s o)).stored)

  carries : (s : ℕ) → Held T s → Carries T T' (λ q. q) s
  carries s h = record {
    steps = λ l o. steps_same s l o;
    check = λ q o. same_check q s o;
    sibling = λ q o. (k.other q (inr (s, o))).sibling;
    child = (k.other s h).child;
    number = λ o. let there = k.other _ (inr (s, o)) in (there.base, there.child);
    back = λ q e. (q, check_before q s e, refl);
  }

  family_kept : (s : ℕ) (h : Head) (ls : List ℕ) → Held T s → Family size T s h ls → Family size' T' s h ls
  family_kept s h ls held f =
      let at = k.other s held in
      family_carried size' T T' (λ q. q) s h ls (carries s held) (λ e. (e, at.sibling)) (λ d. subst (λ x. Based size' x h ls) (sym at.stored) d) (family_more size size' T s h ls more f)

  -- free slots may come and change their links, and the tree is as it was
  pub same_renamed : Renamed size size' T T' (λ q. q)
  same_renamed = record {
    keeps = record {
      root = λ ls f. family_kept 0 top ls (inl refl) f;
      root_stays = refl;
      node = λ c s h ls o f. family_kept s h ls (inr (c, o)) f;
      steps = steps_same;
    };
    root = λ c e. root c (check_before 0 c e);
    root_check = (k.other 0 (inl refl)).check;
    check = same_check;
    back = λ q d e. (q, d, check_before q d e, refl, refl);
  }
