-- A new label behind smaller ones in an ascending chain.
use Rattle.std.proofs.Common.{◌≡◌, ℕ, ◌<◌, ◌≤◌, List, [], ◌∷◌, sym, ◌∙◌, ap, refl, subst, inl, inr, arith, Option, None, cond, true, false}
use Rattle.std.specs.Prelude.{ℤ, pos, bit_xor, nat_lt}
use Rattle.std.proofs.lemmas.Bool.{cases_lt, cases_eq}
use Rattle.std.proofs.lemmas.Bool.Decides.{nat_tests}
use Rattle.cedar_tree.specs.Tree.{Forest, none, child, empty_tree, insert_ascending}
use Rattle.cedar_tree.specs.Edits.{edit_at}
use Rattle.cedar_model.specs.Table.Cells.{Cells, Held}
use Rattle.cedar_model.specs.Meaning.Family.{base_in, base_of, Head, plain, valued, own, top, Family, Node, below, Among, owned_slots, Links, Based}
use Rattle.cedar_model.specs.Meaning.StandsFor.{labels, ChildrenStand, slot_at, OnPath, HoldsTree}
use Rattle.cedar_model.specs.Edit.NodeEdits.{Ascends, follow_on, AddsBehind, with_ascending_label, Above}
use Rattle.cedar_model.proofs.MeaningLemmas.ExclusiveOr.{xor_back}
use Rattle.cedar_model.proofs.EditLemmas.NodeChange.{NodeStays}
use Rattle.cedar_model.proofs.EditLemmas.ChangeAtPath.{edited, root_edited}
use Rattle.cedar_model.proofs.MeaningLemmas.OneNode.{labels_own}
use Rattle.cedar_model.proofs.MeaningLemmas.OneTree.{no_zero}
use Rattle.cedar_model.proofs.MeaningLemmas.AmongLabels.{above_less}

inserted_later : (l m : ℕ) (ms : List ℕ) → m < l → with_ascending_label l (m ∷ ms) ≡ m ∷ with_ascending_label l ms
inserted_later l m ms h = let b : nat_lt l m ≡ false = grind (arith, nat_tests) in ap (λ t. cond t (l ∷ m ∷ ms) (m ∷ with_ascending_label l ms)) b

pub inserted_here : (l m : ℕ) (ms : List ℕ) → l < m → with_ascending_label l (m ∷ ms) ≡ l ∷ m ∷ ms
inserted_here l m ms h = let b : nat_lt l m ≡ true = grind (arith, nat_tests) in ap (λ t. cond t (l ∷ m ∷ ms) (m ∷ with_ascending_label l ms)) b

among_inserted : (l x : ℕ) (ms : List ℕ) → Among ms x → Among (with_ascending_label l ms) x
among_inserted l x [] b = absurd b
among_inserted l x (m ∷ ms) b = elim (cases_lt l m) [
  | inl h ↦ subst (λ y. Among y x) (sym (inserted_here l m ms h)) (inr b)
  | inr h ↦
      let t : nat_lt l m ≡ false = grind (arith, nat_tests) in
      let e : with_ascending_label l (m ∷ ms) ≡ m ∷ with_ascending_label l ms = ap (λ t. cond t (l ∷ m ∷ ms) (m ∷ with_ascending_label l ms)) t in
      subst (λ y. Among y x) (sym e) (elim b [ inl same ↦ inl same | inr c ↦ inr (among_inserted l x ms c) ])
]

among_itself : (l : ℕ) (ms : List ℕ) → Among (with_ascending_label l ms) l
among_itself l [] = inl refl
among_itself l (m ∷ ms) = elim (cases_lt l m) [
  | inl h ↦ subst (λ y. Among y l) (sym (inserted_here l m ms h)) (inl refl)
  | inr h ↦
      let t : nat_lt l m ≡ false = grind (arith, nat_tests) in
      let e : with_ascending_label l (m ∷ ms) ≡ m ∷ with_ascending_label l ms = ap (λ t. cond t (l ∷ m ∷ ms) (m ∷ with_ascending_label l ms)) t in
      subst (λ y. Among y l) (sym e) (inr (among_itself l ms))
]

-- the children with the new leaf among them
module _ (size : ℕ) (T' : Cells) (a l : ℕ) (leaf : Node size T' (below T' a l) None []) where
  pub lower_inserted : (v : Forest) → ChildrenStand size T' a v → ChildrenStand size T' a (insert_ascending v l empty_tree)
  lower_inserted none g = (leaf, tt, tt)
  lower_inserted (child m n u rest) g = elim (cases_lt l m) [
    | inl h ↦ let b : nat_lt l m ≡ true = grind (arith, nat_tests) in
        subst (λ t. ChildrenStand size T' a (cond t (child l None none (child m n u rest)) (child m n u (insert_ascending rest l empty_tree)))) (sym b) (leaf, tt, g)
    | inr h ↦ let b : nat_lt l m ≡ false = grind (arith, nat_tests) in
        subst (λ t. ChildrenStand size T' a (cond t (child l None none (child m n u rest)) (child m n u (insert_ascending rest l empty_tree)))) (sym b) (g.0, g.1, lower_inserted rest g.2)
  ]

module _ (size : ℕ) (T T' : Cells) (a l : ℕ) (k : AddsBehind size T T' a l) where
  at : (m : ℕ) → below T' a m ≡ below T a m
  at m = ap (λ z. bit_xor (base_in z) m) k.same_place

  kept : (m : ℕ) → T.check (below T a m) ≡ pos a → T'.check (below T' a m) ≡ pos a
  kept m o = ap T'.check (at m) ∙ k.touches.mine _ o (λ e. k.free (subst (Held T) e (inr (a, o))))

  -- all labels above l
  links_after : (c : ℕ) (ms : List ℕ) → Above l ms → Links T a c ms → Links T' a c ms
  links_after c [] u h = h
  links_after c (m ∷ ms) u h =
      (h.0, h.1, h.2, kept m h.3, subst (λ x. Links T' a x ms) (sym (ap T'.sibling (at m) ∙ k.after m h.3 u.0)) (links_after (T.sibling (below T a m)) ms (above_less l m ms u.0 u.1) h.4))

  -- l goes before this chain
  links_here : (c : ℕ) (ms : List ℕ) → Above l ms → T'.sibling (below T' a l) ≡ c → Links T a c ms → Links T' a l (l ∷ ms)
  links_here c ms u e h = (refl, k.positive, k.small, k.taken, subst (λ x. Links T' a x ms) (sym e) (links_after c ms u h))

  -- the chain after label m, which is below l
  links_inserted : (m : ℕ) (ms : List ℕ) → 0 < m → m < l → T.check (below T a m) ≡ pos a → Above m ms → (Among ms l → ⊥) → Links T a (T.sibling (below T a m)) ms → Links T' a (T'.sibling (below T a m)) (with_ascending_label l ms)
  links_inserted m [] p h o u n s =
      let w = k.here m o p h (inl s) in
      subst (λ x. Links T' a x (l ∷ [])) (sym w.0) (links_here _ [] tt w.1 s)
  links_inserted m (j ∷ ms) p h o u n s = elim (cases_lt j l) [
    | inl small ↦
        let next : T'.sibling (below T a m) ≡ T.sibling (below T a m) = k.before m o p h (λ e. omega (arith, s.0, s.1, e)) (subst (λ x. x < l) (sym s.0) small) in
        let rest : Links T' a (T'.sibling (below T a j)) (with_ascending_label l ms) = links_inserted j ms s.1 small s.3 u.1 (λ x. n (inr x)) s.4 in
        let chain : Links T' a (T.sibling (below T a m)) (j ∷ with_ascending_label l ms) = (s.0, s.1, s.2, kept j s.3, subst (λ x. Links T' a x (with_ascending_label l ms)) (sym (ap T'.sibling (at j))) rest) in
        subst (λ x. Links T' a x (with_ascending_label l (j ∷ ms))) (sym next) (subst (Links T' a (T.sibling (below T a m))) (sym (inserted_later l j ms small)) chain)
    | inr large ↦
        let above : l < j = strictly j large (λ e. n (inl e)) in
        let w = k.here m o p h (inr (subst (λ x. l < x) (sym s.0) above)) in
        subst (λ x. Links T' a x (with_ascending_label l (j ∷ ms))) (sym w.0)
        (subst (Links T' a l) (sym (inserted_here l j ms above)) (links_here _ (j ∷ ms) (above, u.1) w.1 s))
  ]
    where
      strictly : (j : ℕ) → l ≤ j → (j ≡ l → ⊥) → l < j
      strictly j x y = elim (cases_eq j l) [ inl e ↦ absurd (y e) | inr z ↦ omega arith ]

  -- a chain that begins below l
  links_begun : (c : ℕ) (ls : List ℕ) → (c ≡ 0 → ⊥) → c < l → Ascends ls → (Among ls l → ⊥) → Links T a c ls → Links T' a c (with_ascending_label l ls)
  links_begun c [] z h u n s = absurd (z s)
  links_begun c (m ∷ ms) z h u n s =
      let low : m < l = subst (λ x. x < l) s.0 h in
      let rest : Links T' a (T'.sibling (below T a m)) (with_ascending_label l ms) = links_inserted m ms s.1 low s.3 u (λ x. n (inr x)) s.4 in
      let chain : Links T' a c (m ∷ with_ascending_label l ms) = (s.0, s.1, s.2, kept m s.3, subst (λ x. Links T' a x (with_ascending_label l ms)) (sym (ap T'.sibling (at m))) rest) in
      subst (Links T' a c) (sym (inserted_later l m ms low)) chain

  fresh : (h : Head) (ls : List ℕ) → Family size T a h ls → Among ls l → ⊥
  fresh h ls f b = k.free (subst (Held T) (sym (at l)) (inr (a, labels_own T a h ls f.begins l b)))

  among_more : (h : Head) (ls : List ℕ) (y : ℕ) → Among (owned_slots h ls) y → Among (owned_slots h (with_ascending_label l ls)) y
  among_more plain ls y b = among_inserted l y ls b
  among_more (valued v) ls y (inl e) = inl e
  among_more (valued v) ls y (inr b) = inr (among_inserted l y ls b)
  among_more (own v) ls y b = among_inserted l y ls b
  among_more top ls y b = among_inserted l y ls b

  among_new : (h : Head) (ls : List ℕ) → Among (owned_slots h (with_ascending_label l ls)) l
  among_new plain ls = among_itself l ls
  among_new (valued v) ls = inr (among_itself l ls)
  among_new (own v) ls = among_itself l ls
  among_new top ls = among_itself l ls

  only_more : (h : Head) (ls : List ℕ) → ((q : ℕ) → T.check q ≡ pos a → Among (owned_slots h ls) (below T a q)) → (q : ℕ) → T'.check q ≡ pos a → Among (owned_slots h (with_ascending_label l ls)) (below T' a q)
  only_more h ls only q e = elim (k.touches.only q e) [
    | inl o ↦ subst (Among (owned_slots h (with_ascending_label l ls))) (sym (at q)) (among_more h ls _ (only q o))
    | inr here ↦ subst (Among (owned_slots h (with_ascending_label l ls))) (sym (ap (below T' a) here ∙ xor_back (base_of T' a) l)) (among_new h ls)
  ]

  plain_based : (ls : List ℕ) → (T.child a ≡ 0 → ⊥) → Family size T a plain ls → Based size (T'.stored a) plain (with_ascending_label l ls)
  plain_based [] z f = absurd (z f.begins)
  plain_based (m ∷ ms) z f = some (with_ascending_label l (m ∷ ms)) (subst (λ s. Based size s plain (m ∷ ms)) (sym k.same_place) f.based)
    where
      some : (xs : List ℕ) → Based size (T'.stored a) plain (m ∷ ms) → Based size (T'.stored a) plain xs
      some [] r = inr r
      some (x ∷ xs) r = r

  family_added : (h : Head) (ls : List ℕ) → Ascends ls → (a ≡ 0 → ⊥) → Family size T a h ls → Family size T' a h (with_ascending_label l ls)
  family_added plain ls u z f =
      let off : T.check (below T a 0) ≡ pos a → ⊥ = λ o. no_zero T a _ ls f.begins (subst (Among ls) (xor_back (base_of T a) 0) (f.only _ o)) in
      let w = k.at_node z off in
      record {
        based = plain_based ls w.0 f;
        begins = subst (λ c. Links T' a c (with_ascending_label l ls)) (sym k.child_same) (links_begun (T.child a) ls w.0 w.1 u (fresh plain ls f) f.begins);
        only = only_more plain ls f.only;
      }
  family_added (valued v) ls u z f =
      let w = k.at_number f.begins.1 in
      record {
        based = subst (λ s. Based size s (valued v) ls) (sym k.same_place) f.based;
        begins = (
          k.child_same ∙ f.begins.0,
          kept 0 f.begins.1,
          ap T'.base (at 0) ∙ w.0 ∙ f.begins.2,
          ap T'.child (at 0) ∙ w.1 ∙ f.begins.3,
          subst (λ c. Links T' a c (with_ascending_label l ls)) (sym (ap T'.sibling (at 0) ∙ w.2)) (links_begun _ ls w.3 w.4 u (fresh (valued v) ls f) f.begins.4),
        );
        only = only_more (valued v) ls f.only;
      }
  family_added (own v) ls u z f =
      let off : T.check (below T a 0) ≡ pos a → ⊥ = λ o. subst (λ y. Among y (below T a (below T a 0))) f.begins.1 (f.only _ o) in
      absurd ((k.at_node z off).0 f.begins.0)
  family_added top ls u z f = absurd (z f.begins.0)

  root_added : (ls : List ℕ) → Ascends ls → Family size T a top ls → Family size T' a top (with_ascending_label l ls)
  root_added ls u f =
      let w = k.at_root f.begins.0 in
      record {
        based = k.same_place ∙ f.based;
        begins = (f.begins.0, k.child_same ∙ f.begins.1, subst (λ c. Links T' a c (with_ascending_label l ls)) (sym w.0) (links_begun _ ls w.1 w.2 u (fresh top ls f) f.begins.2));
        only = only_more top ls f.only;
      }

  stays : NodeStays size T T' (below T' a l)
  stays c m n ls z o e g = absurd (k.free (subst (Held T) e (inr (c, o))))

  leaf : Node size T' (below T' a l) None []
  leaf = record { head = plain; number = refl; family = record { based = inl k.leaf; begins = k.leaf_child; only = λ q e. absurd (k.leaf_alone q e) } }

  lower_more : (v : Forest) → ChildrenStand size T' a v → ChildrenStand size T' a (insert_ascending v l empty_tree)
  lower_more = lower_inserted size T' a l leaf

pub labels_inserted : (l : ℕ) (v : Forest) → labels (insert_ascending v l empty_tree) ≡ with_ascending_label l (labels v)
labels_inserted l none = refl
labels_inserted l (child m n u rest) = elim (cases_lt l m) [
  | inl h ↦ let b : nat_lt l m ≡ true = grind (arith, nat_tests) in
      ap (λ t. labels (cond t (child l None none (child m n u rest)) (child m n u (insert_ascending rest l empty_tree)))) b ∙ sym (inserted_here l m (labels rest) h)
  | inr h ↦
      let b : nat_lt l m ≡ false = grind (arith, nat_tests) in
      ap (λ t. labels (cond t (child l None none (child m n u rest)) (child m n u (insert_ascending rest l empty_tree)))) b ∙ ap (λ y. m ∷ y) (labels_inserted l rest)
      ∙ sym (ap (λ t. cond t (l ∷ m ∷ labels rest) (m ∷ with_ascending_label l (labels rest))) b)
]

-- the new leaf is at the path, at its ascending place
pub added_behind : (size : ℕ) (T T' : Cells) (f : Forest) (m : ℕ) (p : List ℕ) (l : ℕ) → HoldsTree size T f → OnPath T (m ∷ p) → AddsBehind size T T' (slot_at T (m ∷ p)) l
    → ((n : Option ℤ) (ls : List ℕ) → Node size T (slot_at T (m ∷ p)) n ls → Ascends ls)
    → (j : ℕ) (v : List ℕ) → follow_on (j ∷ v) [] ≡ m ∷ p → HoldsTree size T' (edit_at (j ∷ v) (λ n. n) (λ u. insert_ascending u l empty_tree) f)
added_behind size T T' f m p l w h k up j v at =
    let a : ℕ = slot_at T (m ∷ p) in
    edited size T T' f (below T' (slot_at T (m ∷ p)) l) w (stays size T T' a l k) (λ n. n) (λ u. insert_ascending u l empty_tree) m p h k.touches
    (λ n u y same g. record { head = g.head; number = g.number; family = subst (λ ls. Family size T' a g.head ls) (sym (labels_inserted l y ∙ ap (with_ascending_label l) same)) (family_added size T T' a l k g.head (labels u) (up n (labels u) g) (λ z. w.root _ (ap T.check (sym z) ∙ h.1)) g.family) })
    (lower_more size T T' a l k) j v at

pub added_behind_at_root : (size : ℕ) (T T' : Cells) (f : Forest) (l : ℕ) → HoldsTree size T f → AddsBehind size T T' 0 l → Ascends (labels f) → HoldsTree size T' (insert_ascending f l empty_tree)
added_behind_at_root size T T' f l w k up =
    root_edited size T T' f (below T' 0 l) w (stays size T T' 0 l k) (λ u. insert_ascending u l empty_tree) k.touches
    (λ g. subst (λ ls. Family size T' 0 top ls) (sym (labels_inserted l f)) (root_added size T T' 0 l k (labels f) up g)) (lower_more size T T' 0 l k f)
