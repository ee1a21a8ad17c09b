-- A node's number set, and taken away.
use Rattle.std.proofs.Common.{◌≡◌, ℕ, ◌<◌, List, [], ◌∷◌, sym, ◌∙◌, ap, refl, subst, inl, inr, arith, Option, Some, None, cond}
use Rattle.std.specs.Prelude.{ℤ, pos, bit_xor}
use Rattle.cedar_tree.specs.Tree.{Forest}
use Rattle.cedar_tree.specs.Edits.{edit_at}
use Rattle.cedar_model.specs.Table.Cells.{Cells}
use Rattle.cedar_model.specs.Meaning.Family.{base_in, base_of, Head, plain, valued, own, top, Node, below, Among, owned_slots, Links, Based}
use Rattle.cedar_model.specs.Meaning.StandsFor.{labels, slot_at, OnPath, HoldsTree}
use Rattle.cedar_model.specs.Edit.NodeEdits.{follow_on, SetsNumber, DropsNumber}
use Rattle.cedar_model.specs.Meaning.Reading.{first_in}
use Rattle.cedar_model.proofs.MeaningLemmas.ExclusiveOr.{xor_back, xor_injective}
use Rattle.cedar_model.proofs.EditLemmas.NodeChange.{NodeStays}
use Rattle.cedar_model.proofs.EditLemmas.ChangeAtPath.{edited}
use Rattle.cedar_model.proofs.EditLemmas.AddFirst.{links_same}
use Rattle.cedar_model.proofs.MeaningLemmas.OneTree.{node_reads, owns_yes}

among_zero : (h : Head) (ls : List ℕ) (y : ℕ) → Among (owned_slots h ls) y → Among (0 ∷ ls) y
among_zero plain ls y a = inr a
among_zero (valued v) ls y a = a
among_zero (own v) ls y a = inr a
among_zero top ls y a = inr a

module _ (size : ℕ) (T T' : Cells) (a : ℕ) (v : ℤ) (k : SetsNumber size T T' a v) where
  set_base : (q : ℕ) → T.check q ≡ pos a → (m : ℕ) → below T' a m ≡ below T a m
  set_base q o m = ap (λ z. bit_xor (base_in z) m) (k.touches.place q o)

  set_label : (m : ℕ) → 0 < m → T.check (below T a m) ≡ pos a → (below T' a m ≡ below T a m) × (T'.check (below T a m) ≡ pos a) × (T'.sibling (below T a m) ≡ T.sibling (below T a m))
  set_label m p o = (
    set_base _ o m,
    k.touches.mine _ o (λ e. let z : m ≡ 0 = xor_injective (base_of T a) m 0 (e ∙ set_base _ o 0) in omega arith),
    k.next _ o (λ e. let z : m ≡ 0 = xor_injective (base_of T a) m 0 e in omega arith),
  )

  node_set : (n : Option ℤ) (ls : List ℕ) → (a ≡ 0 → ⊥) → Node size T a n ls → Node size T' a (Some v) ls
  node_set n ls z g =
      let r = node_reads size T a n ls z g in
      record {
        head = valued v;
        number = refl;
        family = record {
          based = k.in_range;
          begins = (k.through, k.taken, k.value, k.leaf_child, subst (λ c. Links T' a c ls) (sym k.first) (links_same T T' a _ ls set_label r.links));
          only = λ q e. elim (k.touches.only q e) [
            | inl o ↦ subst (Among (0 ∷ ls)) (sym (set_base q o q)) (among_zero g.head ls _ (g.family.only q o))
            | inr at ↦ inl (sym (ap (below T' a) at ∙ xor_back (base_of T' a) 0))
          ];
        };
      }

  set_stays : NodeStays size T T' (below T' a 0)
  set_stays c m n ls z o e g =
      let same : c ≡ a = k.touches.owner c (ap T.check (sym e) ∙ o) in
      let mine : T.check (below T a m) ≡ pos a = subst (λ y. T.check (below T y m) ≡ pos y) same o in
      absurd (z (xor_injective (base_of T a) m 0 (ap (λ y. below T y m) (sym same) ∙ e ∙ set_base _ mine 0)))

module _ (size : ℕ) (T T' : Cells) (a : ℕ) (k : DropsNumber size T T' a) where
  drop_base : (m : ℕ) → below T' a m ≡ below T a m
  drop_base m = ap (λ z. bit_xor (base_in z) m) (k.touches.place _ k.was)

  drop_label : (m : ℕ) → 0 < m → T.check (below T a m) ≡ pos a → (below T' a m ≡ below T a m) × (T'.check (below T a m) ≡ pos a) × (T'.sibling (below T a m) ≡ T.sibling (below T a m))
  drop_label m p o =
      let apart : below T a m ≡ below T a 0 → ⊥ = λ e. let z : m ≡ 0 = xor_injective (base_of T a) m 0 e in omega arith in
      (drop_base m, k.touches.mine _ o apart, k.next _ o apart)

  plain_based : (ls : List ℕ) → Based size (T'.stored a) plain ls
  plain_based [] = inr k.in_range
  plain_based (l ∷ ls) = k.in_range

  node_dropped : (n : Option ℤ) (ls : List ℕ) → (a ≡ 0 → ⊥) → Node size T a n ls → Node size T' a None ls
  node_dropped n ls z g =
      let r = node_reads size T a n ls z g in
      let there : first_in T a ≡ T.sibling (below T a 0) = ap (λ b. cond b (T.sibling (below T a 0)) (T.child a)) (owns_yes T a k.was) in
      let some : (q : ℕ) → T'.check q ≡ pos a → T.check q ≡ pos a × (q ≡ below T a 0 → ⊥) =
      λ q e. (elim (k.touches.only q e) [ inl o ↦ o | inr at ↦ absurd (k.gone (ap T'.check (sym at) ∙ e)) ], λ at. k.gone (ap T'.check (sym at) ∙ e)) in
      record {
        head = plain;
        number = refl;
        family = record {
          based = plain_based ls;
          begins = subst (λ c. Links T' a c ls) (there ∙ sym k.first) (links_same T T' a _ ls drop_label r.links);
          only = λ q e.
              let s = some q e in
              subst (Among ls) (sym (drop_base q)) (elim (among_zero g.head ls _ (g.family.only q s.0)) [
                | inl y ↦ absurd (s.1 (sym (xor_back (base_of T a) q) ∙ ap (below T a) (sym y)))
                | inr y ↦ y
              ]);
        };
      }

  drop_stays : NodeStays size T T' (below T a 0)
  drop_stays c m n ls z o e g =
      let same : c ≡ a = k.touches.owner c (ap T.check (sym e) ∙ o) in
      absurd (z (xor_injective (base_of T a) m 0 (ap (λ y. below T y m) (sym same) ∙ e)))

-- the number at the path is v
pub number_set : (size : ℕ) (T T' : Cells) (f : Forest) (m : ℕ) (p : List ℕ) (v : ℤ) → HoldsTree size T f → OnPath T (m ∷ p) → SetsNumber size T T' (slot_at T (m ∷ p)) v
    → (j : ℕ) (w : List ℕ) → follow_on (j ∷ w) [] ≡ m ∷ p → HoldsTree size T' (edit_at (j ∷ w) (λ _. Some v) (λ u. u) f)
number_set size T T' f m p v w h k j way at =
    let a : ℕ = slot_at T (m ∷ p) in
    edited size T T' f (below T' (slot_at T (m ∷ p)) 0) w (set_stays size T T' a v k) (λ _. Some v) (λ u. u) m p h k.touches
    (λ n u x same g. subst (λ ls. Node size T' a (Some v) ls) (sym same) (node_set size T T' a v k n (labels u) (λ z. w.root _ (ap T.check (sym z) ∙ h.1)) g))
    (λ x g. g) j way at

-- there is no number at the path
pub number_dropped : (size : ℕ) (T T' : Cells) (f : Forest) (m : ℕ) (p : List ℕ) → HoldsTree size T f → OnPath T (m ∷ p) → DropsNumber size T T' (slot_at T (m ∷ p))
    → (j : ℕ) (w : List ℕ) → follow_on (j ∷ w) [] ≡ m ∷ p → HoldsTree size T' (edit_at (j ∷ w) (λ _. None) (λ u. u) f)
number_dropped size T T' f m p w h k j way at =
    let a : ℕ = slot_at T (m ∷ p) in
    edited size T T' f (below T (slot_at T (m ∷ p)) 0) w (drop_stays size T T' a k) (λ _. None) (λ u. u) m p h k.touches
    (λ n u x same g. subst (λ ls. Node size T' a None ls) (sym same) (node_dropped size T T' a k n (labels u) (λ z. w.root _ (ap T.check (sym z) ∙ h.1)) g))
    (λ x g. g) j way at
