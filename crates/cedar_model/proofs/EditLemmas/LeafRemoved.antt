-- A leaf taken out of a chain.
use Rattle.std.proofs.Common.{◌≡◌, ℕ, List, [], ◌∷◌, sym, ◌∙◌, ap, refl, subst, inl, inr, arith, cond, true, false}
use Rattle.std.specs.Prelude.{pos, bit_xor, nat_eq}
use Rattle.std.proofs.lemmas.Bool.{cases_eq}
use Rattle.std.proofs.lemmas.Bool.Decides.{nat_tests}
use Rattle.cedar_tree.specs.Tree.{Forest, none, child, without}
use Rattle.cedar_tree.specs.Edits.{edit_at}
use Rattle.cedar_model.specs.declared.layout.Stored.TheVariants.{AtBase}
use Rattle.cedar_model.specs.Table.Cells.{Cells}
use Rattle.cedar_model.specs.Meaning.Family.{base_in, base_of, Head, plain, valued, own, top, Family, below, Among, owned_slots, Links, Based, InRange}
use Rattle.cedar_model.specs.Meaning.StandsFor.{labels, ChildrenStand, slot_at, OnPath, HoldsTree}
use Rattle.cedar_model.specs.Edit.NodeEdits.{follow_on, Removes, Touches, without_label}
use Rattle.cedar_model.proofs.MeaningLemmas.ExclusiveOr.{xor_back, xor_injective}
use Rattle.cedar_model.proofs.RelocationLemmas.CarriedNode.{family_carried, stands_there}
use Rattle.cedar_model.proofs.MeaningLemmas.OneNode.{DistinctList}
use Rattle.cedar_model.proofs.EditLemmas.NodeChange.{NodeStays, not_x}
use Rattle.cedar_model.proofs.EditLemmas.ChangeAtPath.{edited, root_edited}
use Rattle.cedar_model.proofs.MeaningLemmas.OneTree.{node_distinct, family_distinct}

pub skip_at : (l after c : ℕ) → c ≡ l → cond (nat_eq c l) after c ≡ after
skip_at l after c e = grind (arith, nat_tests)

pub skip_other : (l after c : ℕ) → (c ≡ l → ⊥) → cond (nat_eq c l) after c ≡ c
skip_other l after c n = grind (arith, nat_tests)

removed_at : (l m : ℕ) (ms : List ℕ) → m ≡ l → without_label l (m ∷ ms) ≡ ms
removed_at l m ms e = let b : nat_eq m l ≡ true = grind (arith, nat_tests) in ap (λ t. cond t ms (m ∷ without_label l ms)) b

removed_other : (l m : ℕ) (ms : List ℕ) → (m ≡ l → ⊥) → without_label l (m ∷ ms) ≡ m ∷ without_label l ms
removed_other l m ms n = let b : nat_eq m l ≡ false = grind (arith, nat_tests) in ap (λ t. cond t ms (m ∷ without_label l ms)) b

removed_absent : (l : ℕ) (ms : List ℕ) → (Among ms l → ⊥) → without_label l ms ≡ ms
removed_absent l [] n = refl
removed_absent l (m ∷ ms) n = removed_other l m ms (λ e. n (inl e)) ∙ ap (λ x. m ∷ x) (removed_absent l ms (λ a. n (inr a)))

pub among_removed : (l x : ℕ) (ms : List ℕ) → (x ≡ l → ⊥) → Among ms x → Among (without_label l ms) x
among_removed l x [] n a = a
among_removed l x (m ∷ ms) n a = elim (cases_eq m l) [
  | inl e ↦ subst (λ y. Among y x) (sym (removed_at l m ms e)) (elim a [ inl o ↦ absurd (n (sym o ∙ e)) | inr b ↦ b ])
  | inr o ↦ subst (λ y. Among y x) (sym (removed_other l m ms o)) (elim a [ inl b ↦ inl b | inr b ↦ inr (among_removed l x ms n b) ])
]

-- the table with the slot x, which is nobody's, as a bare leaf
abbrev patched : Cells → ℕ → Cells
patched T x = record {
  base = T.base;
  stored = λ q. cond (nat_eq q x) (AtBase 0) (T.stored q);
  check = T.check;
  sibling = T.sibling;
  child = λ q. cond (nat_eq q x) 0 (T.child q);
}

patched_stored : (T : Cells) (x q : ℕ) → (q ≡ x → ⊥) → (patched T x).stored q ≡ T.stored q
patched_stored T x q n = let b : nat_eq q x ≡ false = grind (arith, nat_tests) in ap (λ t. cond t (AtBase 0) (T.stored q)) b

patched_child : (T : Cells) (x q : ℕ) → (q ≡ x → ⊥) → (patched T x).child q ≡ T.child q
patched_child T x q n = let b : nat_eq q x ≡ false = grind (arith, nat_tests) in ap (λ t. cond t 0 (T.child q)) b

is_same : (x : ℕ) → nat_eq x x ≡ true
is_same x = grind (arith, nat_tests)

-- what is in the patched table is in the table
module _ (size : ℕ) (T : Cells) (f : Forest) (x : ℕ) (gone : (c : ℕ) → T.check x ≡ pos c → ⊥) (alone : (q : ℕ) → T.check q ≡ pos x → ⊥) (not_root : x ≡ 0 → ⊥) (w : HoldsTree size (patched T x) f) where
  same_family : (s : ℕ) (h : Head) (ls : List ℕ) → (s ≡ x → ⊥) → Family size (patched T x) s h ls → Family size T s h ls
  same_family s h ls n k =
      let stored = patched_stored T x s n in
      family_carried size (patched T x) T (λ q. q) s h ls (record {
        steps = λ l o. ap (λ z. bit_xor (base_in z) l) stored;
        check = λ q o. o;
        sibling = λ q o. refl;
        child = sym (patched_child T x s n);
        number = λ o. (refl, sym (patched_child T x _ (λ e. gone s (ap T.check (sym e) ∙ o))));
        back = λ q e. (q, e, refl);
      }) (λ e. (e, refl)) (λ d. subst (λ z. Based size z h ls) stored d) k

  same_steps : (s l : ℕ) → T.check (below (patched T x) s l) ≡ pos s → below (patched T x) s l ≡ below T s l
  same_steps s l o = ap (λ z. bit_xor (base_in z) l) (patched_stored T x s (λ e. alone _ (o ∙ ap pos e)))

  same_path : (p : List ℕ) → OnPath (patched T x) p → OnPath T p × (slot_at T p ≡ slot_at (patched T x) p)
  same_path [] h = (tt, refl)
  same_path (l ∷ p) h =
      let up = same_path p h.2 in
      let at : slot_at T (l ∷ p) ≡ slot_at (patched T x) (l ∷ p) = ap (λ s. below T s l) up.1 ∙ sym (same_steps (slot_at (patched T x) p) l h.1) in
      ((h.0, ap T.check at ∙ h.1 ∙ ap pos (sym up.1), up.0), at)

  pub unpatched : HoldsTree size T f
  unpatched = record {
    stands = stands_there size (patched T x) T (record {
      root = λ ls k. same_family 0 top ls (λ e. not_root (sym e)) k;
      node = λ c s h ls o k. same_family s h ls (λ e. gone c (ap T.check (sym e) ∙ o)) k;
      steps = same_steps;
    }) f w.stands;
    root = w.root;
    reached = λ q c e. let way = w.reached q c e in let s = same_path way.0 way.1 in (way.0, s.0, s.1 ∙ way.2);
  }

module _ (size : ℕ) (T T' : Cells) (a l : ℕ) (k : Removes size T T' a l) (a_not_x : a ≡ below T a l → ⊥) where
  pub patched_touches : Touches T (patched T' (below T a l)) a (below T a l)
  patched_touches = record {
    base = k.touches.base;
    stored = λ q h n m. patched_stored T' (below T a l) q m ∙ k.touches.stored q h n m;
    child = λ q h n m. patched_child T' (below T a l) q m ∙ k.touches.child q h n m;
    sibling = k.touches.sibling;
    check = k.touches.check;
    back = k.touches.back;
    root = k.touches.root;
    place = λ q o. patched_stored T' (below T a l) a a_not_x ∙ k.touches.place q o;
    mine = k.touches.mine;
    only = k.touches.only;
    alone = k.touches.alone;
    owner = k.touches.owner;
    not_root = k.touches.not_root;
  }

  pub alone_after : (q : ℕ) → T'.check q ≡ pos (below T a l) → ⊥
  alone_after q e = k.touches.alone q (k.touches.back q _ e (λ z. a_not_x (sym z)))

  pub leaf_stays : NodeStays size T (patched T' (below T a l)) (below T a l)
  leaf_stays c m n ls z o e g = record { head = g.head; number = g.number; family = by_head g.head ls g.family }
    where
      by_head : (h : Head) (ls : List ℕ) → Family size T (below T a l) h ls → Family size (patched T' (below T a l)) (below T a l) h ls
      by_head plain [] f = record {
        based = inl (ap (λ t. cond t (AtBase 0) (T'.stored (below T a l))) (is_same (below T a l)));
        begins = ap (λ t. cond t 0 (T'.child (below T a l))) (is_same (below T a l));
        only = λ q e. absurd (alone_after q e);
      }
      by_head plain (m ∷ ls) f = absurd (k.touches.alone _ f.begins.3)
      by_head (valued v) ls f = absurd (k.touches.alone _ f.begins.1)
      by_head (own v) ls f = absurd (k.no_number v f.based)
      by_head top ls f = absurd (k.touches.not_root f.begins.0)

  at_base : (m : ℕ) → below (patched T' (below T a l)) a m ≡ below T a m
  at_base m = ap (λ z. bit_xor (base_in z) m) (patched_touches.place _ k.was)

  first_absent : (c : ℕ) (ms : List ℕ) → (Among ms l → ⊥) → Links T a c ms → c ≡ l → ⊥
  first_absent c [] n h e = k.positive (sym e ∙ h)
  first_absent c (m ∷ ms) n h e = n (inl (sym h.0 ∙ e))

  links_cut : (c : ℕ) (ms : List ℕ) → DistinctList ms → Links T a c ms → Links (patched T' (below T a l)) a (cond (nat_eq c l) (T.sibling (below T a l)) c) (without_label l ms)
  links_cut c [] d h = skip_other l _ c (λ e. k.positive (sym e ∙ h)) ∙ h
  links_cut c (m ∷ ms) d h = elim (cases_eq m l) [
    | inl e ↦
        let absent : Among ms l → ⊥ = λ b. d.0 (subst (Among ms) (sym e) b) in
        let after : T.sibling (below T a m) ≡ T.sibling (below T a l) = ap (λ y. T.sibling (below T a y)) e in
        let rest : Links (patched T' (below T a l)) a (cond (nat_eq (T.sibling (below T a m)) l) (T.sibling (below T a l)) (T.sibling (below T a m))) (without_label l ms) = links_cut (T.sibling (below T a m)) ms d.1 h.4 in
        let same : cond (nat_eq (T.sibling (below T a m)) l) (T.sibling (below T a l)) (T.sibling (below T a m)) ≡ T.sibling (below T a m) = skip_other l _ _ (first_absent _ ms absent h.4) in
        subst (λ y. Links (patched T' (below T a l)) a y (without_label l (m ∷ ms))) (after ∙ sym (skip_at l _ c (h.0 ∙ e)))
        (subst (Links (patched T' (below T a l)) a (T.sibling (below T a m))) (removed_absent l ms absent ∙ sym (removed_at l m ms e)) (subst (λ y. Links (patched T' (below T a l)) a y (without_label l ms)) same rest))
    | inr n ↦
        let apart : below T a m ≡ below T a l → ⊥ = λ z. n (xor_injective (base_of T a) m l z) in
        let rest = links_cut (T.sibling (below T a m)) ms d.1 h.4 in
        let kept : Links (patched T' (below T a l)) a c (m ∷ without_label l ms) =
        (h.0, h.1, h.2, ap T'.check (at_base m) ∙ k.touches.mine _ h.3 apart, subst (λ y. Links (patched T' (below T a l)) a y (without_label l ms)) (sym (ap T'.sibling (at_base m) ∙ k.next _ h.3 apart)) rest) in
        subst (λ y. Links (patched T' (below T a l)) a y (without_label l (m ∷ ms))) (sym (skip_other l _ c (λ z. n (sym h.0 ∙ z))))
        (subst (Links (patched T' (below T a l)) a c) (sym (removed_other l m ms n)) kept)
  ]

  among_owned : (h : Head) (ls : List ℕ) (y : ℕ) → (y ≡ l → ⊥) → Among (owned_slots h ls) y → Among (owned_slots h (without_label l ls)) y
  among_owned plain ls y n b = among_removed l y ls n b
  among_owned (valued v) ls y n (inl e) = inl e
  among_owned (valued v) ls y n (inr b) = inr (among_removed l y ls n b)
  among_owned (own v) ls y n b = among_removed l y ls n b
  among_owned top ls y n b = among_removed l y ls n b

  only_cut : (h : Head) (ls : List ℕ) → ((q : ℕ) → T.check q ≡ pos a → Among (owned_slots h ls) (below T a q)) → (q : ℕ) → T'.check q ≡ pos a → Among (owned_slots h (without_label l ls)) (below (patched T' (below T a l)) a q)
  only_cut h ls only q e =
      let not_x : q ≡ below T a l → ⊥ = λ z. k.gone a (ap T'.check (sym z) ∙ e) in
      let was : T.check q ≡ pos a = elim (k.touches.only q e) [ inl o ↦ o | inr z ↦ absurd (not_x z) ] in
      let other : below T a q ≡ l → ⊥ = λ z. not_x (sym (xor_back (base_of T a) q) ∙ ap (below T a) z) in
      subst (Among (owned_slots h (without_label l ls))) (sym (at_base q)) (among_owned h ls _ other (only q was))

  stored_same : (patched T' (below T a l)).stored a ≡ T.stored a
  stored_same = patched_touches.place _ k.was

  child_cut : (patched T' (below T a l)).child a ≡ cond (nat_eq (T.child a) l) (T.sibling (below T a l)) (T.child a)
  child_cut = patched_child T' (below T a l) a a_not_x ∙ k.first

  -- a node that has a label has a base
  ranged : (ls : List ℕ) → Family size T a plain ls → InRange size (T.stored a)
  ranged [] f = absurd (f.only _ k.was)
  ranged (m ∷ ls) f = f.based

  in_range : (ls : List ℕ) → InRange size (T.stored a) → Based size (T.stored a) plain ls
  in_range [] r = inr r
  in_range (m ∷ ls) r = r

  pub family_cut : (h : Head) (ls : List ℕ) → DistinctList ls → Family size T a h ls → Family size (patched T' (below T a l)) a h (without_label l ls)
  family_cut plain ls d f = record {
    based = subst (λ z. Based size z plain (without_label l ls)) (sym stored_same) (in_range (without_label l ls) (ranged ls f));
    begins = subst (λ c. Links (patched T' (below T a l)) a c (without_label l ls)) (sym child_cut) (links_cut (T.child a) ls d f.begins);
    only = only_cut plain ls f.only;
  }
  family_cut (valued v) ls d f =
      let apart : below T a 0 ≡ below T a l → ⊥ = λ z. k.positive (sym (xor_injective (base_of T a) 0 l z)) in
      let off : T.child a ≡ l → ⊥ = λ z. k.positive (sym z ∙ f.begins.0) in
      let n = k.number f.begins.1 in
      record {
        based = subst (λ z. InRange size z) (sym stored_same) f.based;
        begins = (
          child_cut ∙ skip_other l _ _ off ∙ f.begins.0,
          ap T'.check (at_base 0) ∙ k.touches.mine _ f.begins.1 apart,
          ap T'.base (at_base 0) ∙ n.0 ∙ f.begins.2,
          ap (patched T' (below T a l)).child (at_base 0) ∙ patched_child T' (below T a l) _ apart ∙ n.1 ∙ f.begins.3,
          subst (λ c. Links (patched T' (below T a l)) a c (without_label l ls)) (sym (ap T'.sibling (at_base 0) ∙ k.next _ f.begins.1 apart)) (links_cut _ ls d f.begins.4),
        );
        only = only_cut (valued v) ls f.only;
      }
  family_cut (own v) ls d f = absurd (subst (λ y. Among y (below T a (below T a l))) f.begins.1 (f.only _ k.was))
  family_cut top ls d f =
      let off : T.child a ≡ l → ⊥ = λ z. k.positive (sym z ∙ f.begins.1) in
      record {
        based = stored_same ∙ f.based;
        begins = (f.begins.0, child_cut ∙ skip_other l _ _ off ∙ f.begins.1, subst (λ c. Links (patched T' (below T a l)) a c (without_label l ls)) (sym (k.at_root f.begins.0)) (links_cut _ ls d f.begins.2));
        only = only_cut top ls f.only;
      }

  lower_without : (T₁ : Cells) (v : Forest) → ChildrenStand size T₁ a v → ChildrenStand size T₁ a (without v l)
  lower_without T₁ none g = tt
  lower_without T₁ (child m n u rest) g = elim (cases_eq m l) [
    | inl e ↦ let b : nat_eq m l ≡ true = grind (arith, nat_tests) in
        subst (λ t. ChildrenStand size T₁ a (cond t rest (child m n u (without rest l)))) (sym b) g.2
    | inr o ↦ let b : nat_eq m l ≡ false = grind (arith, nat_tests) in
        subst (λ t. ChildrenStand size T₁ a (cond t rest (child m n u (without rest l)))) (sym b) (g.0, g.1, lower_without T₁ rest g.2)
  ]

  labels_without : (v : Forest) → labels (without v l) ≡ without_label l (labels v)
  labels_without none = refl
  labels_without (child m n u rest) = elim (cases_eq m l) [
    | inl e ↦ let b : nat_eq m l ≡ true = grind (arith, nat_tests) in
        ap (λ t. labels (cond t rest (child m n u (without rest l)))) b ∙ sym (removed_at l m (labels rest) e)
    | inr o ↦ let b : nat_eq m l ≡ false = grind (arith, nat_tests) in
        ap (λ t. labels (cond t rest (child m n u (without rest l)))) b ∙ ap (λ y. m ∷ y) (labels_without rest) ∙ sym (removed_other l m (labels rest) o)
  ]

-- the tree without that leaf
pub leaf_removed : (size : ℕ) (T T' : Cells) (f : Forest) (m : ℕ) (p : List ℕ) (l : ℕ) → HoldsTree size T f → OnPath T (m ∷ p) → Removes size T T' (slot_at T (m ∷ p)) l
    → (j : ℕ) (v : List ℕ) → follow_on (j ∷ v) [] ≡ m ∷ p → HoldsTree size T' (edit_at (j ∷ v) (λ n. n) (λ u. without u l) f)
leaf_removed size T T' f m p l w h k j v at =
    let a : ℕ = slot_at T (m ∷ p) in
    let x : ℕ = below T (slot_at T (m ∷ p)) l in
    let n : slot_at T (m ∷ p) ≡ below T (slot_at T (m ∷ p)) l → ⊥ = not_x size T T' f (m ∷ p) x w h k.touches in
    unpatched size T' (edit_at (j ∷ v) (λ n. n) (λ u. without u l) f) x k.gone (alone_after size T T' a l k n) k.touches.not_root
    (edited size T (patched T' x) f x w (leaf_stays size T T' a l k n) (λ n. n) (λ u. without u l) m p h (patched_touches size T T' a l k n)
    (λ o u y same g. record { head = g.head; number = g.number; family = subst (λ ls. Family size (patched T' x) a g.head ls) (sym (labels_without size T T' a l k n y ∙ ap (without_label l) same)) (family_cut size T T' a l k n g.head (labels u) (node_distinct size T a o (labels u) g) g.family) })
    (λ y g. lower_without size T T' a l k n (patched T' x) y g) j v at)

pub leaf_removed_at_root : (size : ℕ) (T T' : Cells) (f : Forest) (l : ℕ) → HoldsTree size T f → Removes size T T' 0 l → HoldsTree size T' (without f l)
leaf_removed_at_root size T T' f l w k =
    let x : ℕ = below T 0 l in
    let n : 0 ≡ below T 0 l → ⊥ = λ e. k.touches.not_root (sym e) in
    unpatched size T' (without f l) x k.gone (alone_after size T T' 0 l k n) k.touches.not_root
    (root_edited size T (patched T' x) f x w (leaf_stays size T T' 0 l k n) (λ u. without u l) (patched_touches size T T' 0 l k n)
    (λ g. subst (λ ls. Family size (patched T' x) 0 top ls) (sym (labels_without size T T' 0 l k n f)) (family_cut size T T' 0 l k n top (labels f) (family_distinct size T 0 top (labels f) g) g))
    (λ g. lower_without size T T' 0 l k n (patched T' x) f g))
