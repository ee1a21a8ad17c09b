-- A new first label.
use Rattle.std.proofs.Common.{◌≡◌, ℕ, ◌<◌, List, [], ◌∷◌, sym, ◌∙◌, ap, refl, subst, inl, inr, arith, None}
use Rattle.std.specs.Prelude.{pos, bit_xor}
use Rattle.cedar_tree.specs.Tree.{Forest}
use Rattle.cedar_tree.specs.Edits.{edit_at}
use Rattle.cedar_model.specs.Table.Cells.{Cells, Held}
use Rattle.cedar_model.specs.Meaning.Family.{base_in, base_of, Head, plain, valued, own, top, Family, Node, below, Among, owned_slots, Links}
use Rattle.cedar_model.specs.Meaning.StandsFor.{labels, ChildrenStand, slot_at, OnPath, HoldsTree}
use Rattle.cedar_model.specs.Edit.NodeEdits.{follow_on, AddsFirst, add_first}
use Rattle.cedar_model.proofs.MeaningLemmas.ExclusiveOr.{xor_back, xor_injective}
use Rattle.cedar_model.proofs.EditLemmas.NodeChange.{NodeStays}
use Rattle.cedar_model.proofs.EditLemmas.ChangeAtPath.{edited, root_edited}
use Rattle.cedar_model.proofs.MeaningLemmas.OneTree.{no_zero}

-- a chain whose slots have kept their owner and their links
pub links_same : (T T' : Cells) (s c : ℕ) (ls : List ℕ) → ((m : ℕ) → 0 < m → T.check (below T s m) ≡ pos s → (below T' s m ≡ below T s m) × (T'.check (below T s m) ≡ pos s) × (T'.sibling (below T s m) ≡ T.sibling (below T s m))) → Links T s c ls → Links T' s c ls
links_same T T' s c [] k h = h
links_same T T' s c (m ∷ ls) k h =
    let w = k m h.1 h.3 in
    (h.0, h.1, h.2, ap T'.check w.0 ∙ w.1, subst (λ x. Links T' s x ls) (sym (ap T'.sibling w.0 ∙ w.2)) (links_same T T' s (T.sibling (below T s m)) ls k h.4))

module _ (size : ℕ) (T T' : Cells) (a l : ℕ) (k : AddsFirst size T T' a l) where
  at_label : (m : ℕ) → 0 < m → T.check (below T a m) ≡ pos a → (below T' a m ≡ below T a m) × (T'.check (below T a m) ≡ pos a) × (T'.sibling (below T a m) ≡ T.sibling (below T a m))
  at_label m p o = (
    ap (λ z. bit_xor (base_in z) m) (k.touches.place _ o),
    k.touches.mine _ o (λ e. k.free (subst (Held T) e (inr (a, o)))),
    k.next _ o (λ e. let z : m ≡ 0 = xor_injective (base_of T a) m 0 e in omega arith),
  )

  chain : (c : ℕ) (ls : List ℕ) → T'.sibling (below T' a l) ≡ c → Links T a c ls → Links T' a l (l ∷ ls)
  chain c ls e h = (refl, k.positive, k.small, k.taken, subst (λ x. Links T' a x ls) (sym e) (links_same T T' a c ls at_label h))

  among_more : (h : Head) (ls : List ℕ) (x : ℕ) → Among (owned_slots h ls) x → Among (owned_slots h (l ∷ ls)) x
  among_more plain ls x b = inr b
  among_more (valued v) ls x (inl e) = inl e
  among_more (valued v) ls x (inr b) = inr (inr b)
  among_more (own v) ls x b = inr b
  among_more top ls x b = inr b

  among_new : (h : Head) (ls : List ℕ) → Among (owned_slots h (l ∷ ls)) l
  among_new plain ls = inl refl
  among_new (valued v) ls = inr (inl refl)
  among_new (own v) ls = inl refl
  among_new top ls = inl refl

  only_more : (h : Head) (ls : List ℕ) → ((q : ℕ) → T.check q ≡ pos a → Among (owned_slots h ls) (below T a q)) → (q : ℕ) → T'.check q ≡ pos a → Among (owned_slots h (l ∷ ls)) (below T' a q)
  only_more h ls only q e = elim (k.touches.only q e) [
    | inl o ↦ subst (Among (owned_slots h (l ∷ ls))) (ap (λ z. bit_xor (base_in z) q) (sym (k.touches.place q o))) (among_more h ls _ (only q o))
    | inr at ↦ subst (Among (owned_slots h (l ∷ ls))) (sym (ap (below T' a) at ∙ xor_back (base_of T' a) l)) (among_new h ls)
  ]

  pub family_added : (h : Head) (ls : List ℕ) → (a ≡ 0 → ⊥) → Family size T a h ls → Family size T' a h (l ∷ ls)
  family_added plain ls z f =
      let none : T.check (below T a 0) ≡ pos a → ⊥ = λ o. no_zero T a _ ls f.begins (subst (Among ls) (xor_back (base_of T a) 0) (f.only _ o)) in
      let w = k.at_node z none in
      record {
        based = k.in_range z;
        begins = subst (λ c. Links T' a c (l ∷ ls)) (sym w.0) (chain (T.child a) ls w.1 f.begins);
        only = only_more plain ls f.only;
      }
  family_added (valued v) ls z f =
      let w = k.at_number f.begins.1 in
      let e : below T' a 0 ≡ below T a 0 = ap (λ z. bit_xor (base_in z) 0) (k.touches.place _ f.begins.1) in
      record {
        based = k.in_range z;
        begins = (
          w.0 ∙ f.begins.0,
          ap T'.check e ∙ k.touches.mine _ f.begins.1 (λ y. k.free (subst (Held T) y (inr (a, f.begins.1)))),
          ap T'.base e ∙ w.1 ∙ f.begins.2,
          ap T'.child e ∙ w.2 ∙ f.begins.3,
          subst (λ c. Links T' a c (l ∷ ls)) (sym (ap T'.sibling e ∙ w.3)) (chain _ ls w.4 f.begins.4),
        );
        only = only_more (valued v) ls f.only;
      }
  family_added (own v) ls z f = absurd (k.shared v f.based)
  family_added top ls z f = absurd (z f.begins.0)

  pub root_added : (ls : List ℕ) → Family size T a top ls → Family size T' a top (l ∷ ls)
  root_added ls f =
      let w = k.at_root f.begins.0 in
      record {
        based = k.low f.begins.0;
        begins = (f.begins.0, w.0 ∙ f.begins.1, subst (λ c. Links T' a c (l ∷ ls)) (sym w.1) (chain _ ls w.2 f.begins.2));
        only = only_more top ls f.only;
      }

  pub stays : NodeStays size T T' (below T' a l)
  stays c m n ls z o e g = absurd (k.free (subst (Held T) e (inr (c, o))))

  pub leaf : Node size T' (below T' a l) None []
  leaf = record { head = plain; number = refl; family = record { based = inl k.leaf; begins = k.leaf_child; only = λ q e. absurd (k.leaf_alone q e) } }

  lower_more : (v : Forest) → ChildrenStand size T' a v → ChildrenStand size T' a (add_first l v)
  lower_more v g = (leaf, tt, g)

-- the new leaf is at the path, first of its siblings
pub added_first : (size : ℕ) (T T' : Cells) (f : Forest) (m : ℕ) (p : List ℕ) (l : ℕ) → HoldsTree size T f → OnPath T (m ∷ p) → AddsFirst size T T' (slot_at T (m ∷ p)) l
    → (j : ℕ) (v : List ℕ) → follow_on (j ∷ v) [] ≡ m ∷ p → HoldsTree size T' (edit_at (j ∷ v) (λ n. n) (add_first l) f)
added_first size T T' f m p l w h k j v at =
    let a : ℕ = slot_at T (m ∷ p) in
    edited size T T' f (below T' (slot_at T (m ∷ p)) l) w (stays size T T' a l k) (λ n. n) (add_first l) m p h k.touches
    (λ n u v same g. record { head = g.head; number = g.number; family = subst (λ ls. Family size T' a g.head (l ∷ ls)) (sym same) (family_added size T T' a l k g.head (labels u) (λ z. w.root _ (ap T.check (sym z) ∙ h.1)) g.family) })
    (lower_more size T T' a l k) j v at

pub added_at_root : (size : ℕ) (T T' : Cells) (f : Forest) (l : ℕ) → HoldsTree size T f → AddsFirst size T T' 0 l → HoldsTree size T' (add_first l f)
added_at_root size T T' f l w k =
    root_edited size T T' f (below T' 0 l) w (stays size T T' 0 l k) (add_first l) k.touches (root_added size T T' 0 l k (labels f)) (lower_more size T T' 0 l k f)
