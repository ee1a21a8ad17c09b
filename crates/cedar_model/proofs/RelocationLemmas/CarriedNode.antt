-- One node's own slots under a renaming of slots. With the identity as the renaming these are the
-- frame facts of an edit elsewhere.
use Rattle.std.proofs.Common.{◌≡◌, ℕ, List, [], ◌∷◌, sym, ◌∙◌, ap, subst, inl, inr, refl}
use Rattle.std.specs.Prelude.{pos}
use Rattle.cedar_tree.specs.Tree.{Forest, none, child}
use Rattle.cedar_model.specs.Table.Cells.{Cells}
use Rattle.cedar_model.specs.Meaning.Family.{Head, plain, valued, own, top, Family, below, Among, owned_slots, Links, Begins, Based, base_of}
use Rattle.cedar_model.specs.Meaning.StandsFor.{labels, ChildrenStand, RootStands}
use Rattle.cedar_model.proofs.MeaningLemmas.OneNode.{labels_own, node_labels_own}
use Rattle.cedar_model.proofs.MeaningLemmas.ExclusiveOr.{xor_back}

-- T' has at the renamed slots of node s what T has there
pub record Carries (T T' : Cells) (r : ℕ → ℕ) (s : ℕ) : Type 0 where
  pub steps : (l : ℕ) → T.check (below T s l) ≡ pos s → r (below T s l) ≡ below T' (r s) l
  pub check : (q : ℕ) → T.check q ≡ pos s → T'.check (r q) ≡ pos (r s)
  pub sibling : (q : ℕ) → T.check q ≡ pos s → T'.sibling (r q) ≡ T.sibling q
  pub child : T'.child (r s) ≡ T.child s
  pub number : T.check (below T s 0) ≡ pos s → (T'.base (r (below T s 0)) ≡ T.base (below T s 0)) × (T'.child (r (below T s 0)) ≡ T.child (below T s 0))
  pub back : (q : ℕ) → T'.check q ≡ pos (r s) → (o : ℕ) × (T.check o ≡ pos s) × (r o ≡ q)

links_carried : (T T' : Cells) (r : ℕ → ℕ) (s c : ℕ) (ls : List ℕ) → Carries T T' r s → Links T s c ls → Links T' (r s) c ls
links_carried T T' r s c [] k h = h
links_carried T T' r s c (l ∷ ls) k h =
    let e : r (below T s l) ≡ below T' (r s) l = k.steps l h.3 in
    let owner : T'.check (below T' (r s) l) ≡ pos (r s) = subst (λ x. T'.check x ≡ pos (r s)) e (k.check _ h.3) in
    let next : T.sibling (below T s l) ≡ T'.sibling (below T' (r s) l) = sym (k.sibling _ h.3) ∙ ap T'.sibling e in
    (h.0, h.1, h.2, owner, subst (λ x. Links T' (r s) x ls) next (links_carried T T' r s (T.sibling (below T s l)) ls k h.4))

begins_carried : (T T' : Cells) (r : ℕ → ℕ) (s : ℕ) (h : Head) (ls : List ℕ) → Carries T T' r s → (s ≡ 0 → (r s ≡ 0) × (T'.sibling (r s) ≡ T.sibling s)) → Begins T s h ls → Begins T' (r s) h ls
begins_carried T T' r s plain ls k z b = subst (λ x. Links T' (r s) x ls) (sym k.child) (links_carried T T' r s _ ls k b)
begins_carried T T' r s (valued v) ls k z b =
    let e : r (below T s 0) ≡ below T' (r s) 0 = k.steps 0 b.1 in
    let n = k.number b.1 in (
      k.child ∙ b.0,
      subst (λ x. T'.check x ≡ pos (r s)) e (k.check _ b.1),
      subst (λ x. T'.base x ≡ v) e (n.0 ∙ b.2),
      subst (λ x. T'.child x ≡ 0) e (n.1 ∙ b.3),
      subst (λ x. Links T' (r s) x ls) (sym (k.sibling _ b.1) ∙ ap T'.sibling e) (links_carried T T' r s _ ls k b.4),
    )
begins_carried T T' r s (own v) ls k z b = (k.child ∙ b.0, b.1)
begins_carried T T' r s top ls k z b =
    ((z b.0).0, k.child ∙ b.1, subst (λ x. Links T' (r s) x ls) (sym (z b.0).1) (links_carried T T' r s _ ls k b.2))

only_carried : (T T' : Cells) (r : ℕ → ℕ) (s : ℕ) (os : List ℕ) → Carries T T' r s → ((q : ℕ) → T.check q ≡ pos s → Among os (below T s q)) → (q : ℕ) → T'.check q ≡ pos (r s) → Among os (below T' (r s) q)
only_carried T T' r s os k only q e =
    let w = k.back q e in let o = w.0 in
    -- o is the slot of its own label below s
    let at : below T s (below T s o) ≡ o = xor_back (base_of T s) o in
    let owner : T.check (below T s (below T s o)) ≡ pos s = ap T.check at ∙ w.1 in
    let same : q ≡ below T' (r s) (below T s o) = sym w.2 ∙ ap r (sym at) ∙ k.steps _ owner in
    let label : below T' (r s) q ≡ below T s o = ap (below T' (r s)) same ∙ xor_back (base_of T' (r s)) _ in
    subst (Among os) (sym label) (only o w.1)

-- the core lemma: a node whose slots are carried is the same node under its new name
pub family_carried : (size : ℕ) (T T' : Cells) (r : ℕ → ℕ) (s : ℕ) (h : Head) (ls : List ℕ) → Carries T T' r s → (s ≡ 0 → (r s ≡ 0) × (T'.sibling (r s) ≡ T.sibling s)) → (Based size (T.stored s) h ls → Based size (T'.stored (r s)) h ls) → Family size T s h ls → Family size T' (r s) h ls
family_carried size T T' r s h ls k z b f = record {
  based = b f.based;
  begins = begins_carried T T' r s h ls k z f.begins;
  only = only_carried T T' r s (owned_slots h ls) k f.only;
}

-- each node of T is the same node of T', and its children have the same slots
pub record SameNodes (size : ℕ) (T T' : Cells) : Type 0 where
  pub root : (ls : List ℕ) → Family size T 0 top ls → Family size T' 0 top ls
  pub node : (c s : ℕ) (h : Head) (ls : List ℕ) → T.check s ≡ pos c → Family size T s h ls → Family size T' s h ls
  pub steps : (s l : ℕ) → T.check (below T s l) ≡ pos s → below T s l ≡ below T' s l

lower_there : (size : ℕ) (T T' : Cells) → SameNodes size T T' → (s : ℕ) (f : Forest) → ((l : ℕ) → Among (labels f) l → T.check (below T s l) ≡ pos s) → ChildrenStand size T s f → ChildrenStand size T' s f
lower_there size T T' k s none mine g = tt
lower_there size T T' k s (child l n f rest) mine g =
    let here : T.check (below T s l) ≡ pos s = mine l (inl refl) in
    let e : below T s l ≡ below T' s l = k.steps s l here in (
      record { head = g.0.head; number = g.0.number; family = subst (λ x. Family size T' x g.0.head (labels f)) e (k.node s (below T s l) g.0.head (labels f) here g.0.family) },
      subst (λ x. ChildrenStand size T' x f) e (lower_there size T T' k (below T s l) f (node_labels_own size T (below T s l) n (labels f) g.0) g.1),
      lower_there size T T' k s rest (λ x a. mine x (inr a)) g.2,
    )

-- so the same tree is in both
pub stands_there : (size : ℕ) (T T' : Cells) → SameNodes size T T' → (f : Forest) → RootStands size T f → RootStands size T' f
stands_there size T T' k f st = (k.root (labels f) st.0, lower_there size T T' k 0 f (labels_own T 0 top (labels f) st.0.begins) st.1)
