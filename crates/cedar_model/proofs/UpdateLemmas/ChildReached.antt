-- A step to the child under a label, which was there or was added.
use Rattle.std.proofs.Common.{◌≡◌, ℕ, ◌<◌, ◌≤◌, List, [], ◌∷◌, ◌++◌, sym, ◌∙◌, ap, refl, subst, inl, inr, arith, Bool, true, false, cond, ◌⊎◌}
use Rattle.std.specs.Prelude.{◌%◌, bit_xor, ℤ, pos}
use Rattle.std.specs.Int.Bits.{xor_zero_l}
use Rattle.std.proofs.lemmas.Bool.{cases_eq}
use Rattle.cedar_tree.specs.Tree.{Forest, has_label, IsAscending}
use Rattle.cedar_tree.specs.Queries.{node_at}
use Rattle.cedar_tree.specs.Edits.{add_leaf, edit_at, with_leaf}
use Rattle.cedar_model.specs.declared.layout.Stored.TheVariants.{AtBase, OwnNumber}
use Rattle.cedar_model.specs.Table.Cells.{Cells, Held}
use Rattle.cedar_model.specs.Meaning.Family.{base_in, base_of, below, InRange}
use Rattle.cedar_model.specs.Meaning.Marks.{KeepsMarks}
use Rattle.cedar_model.specs.Meaning.StandsFor.{HoldsTree}
use Rattle.cedar_model.specs.Edit.NodeEdits.{AddsLabel, follow_on, IsAt, IsNodeOf, Touches}
use Rattle.cedar_model.specs.Relocation.Reserved.{cells_without, Reserves}
use Rattle.cedar_model.specs.Edit.Steps.{Placed, root_of, StepsTo}
use Rattle.cedar_model.specs.Table.TableFields.{Fields, size_of}
use Rattle.cedar_model.specs.Meaning.WellFormed.{cells_in}
use Rattle.cedar_model.proofs.MeaningLemmas.NodeAtPath.{at_child, at_lacks, at_owned}
use Rattle.cedar_model.proofs.CellsLemmas.HeldSlots.{held_used}
use Rattle.cedar_model.proofs.EditLemmas.FirstBase.{bare_owns}
use Rattle.cedar_model.proofs.MeaningLemmas.NumberSlots.{label_marks, marks_same, marks_then}
use Rattle.cedar_model.proofs.RelocationLemmas.Movable.{node_at_end}
use Rattle.cedar_model.proofs.EditLemmas.Room.{node_base}
use Rattle.cedar_model.proofs.MeaningLemmas.ExclusiveOr.{xor_within}

-- the slot of any label of a node is in use or free, if the node keeps no number in its base field
pub label_inside : (size : ℕ) (T : Cells) (ordered : Bool) (f : Forest) (a l : ℕ) → IsNodeOf size T ordered f a → size % 256 ≡ 0 → 0 < size → l < 256 → ((v : ℤ) → T.stored a ≡ OwnNumber v → ⊥) → below T a l < size
label_inside size T ordered f a l k whole some small n = xor_within size (base_of T a) l whole base_in_use small
  where
    base_in_use : base_of T a < size
    base_in_use = elim (cases_eq a 0) [
      | inl z ↦ let e : base_of T a ≡ 0 = subst (λ s. base_of T s ≡ 0) (sym z) (ap base_in k.holds.stands.0.based) in omega (arith, e, some)
      | inr z ↦ elim (node_base size T ordered f a k z n) [ inl b ↦ let e : base_of T a ≡ 0 = ap base_in b in omega (arith, e, some) | inr r ↦ r.1 ]
    ]

-- a node that owns a slot has a base
pub owner_ranged : (size : ℕ) (T : Cells) (ordered : Bool) (f : Forest) (a q : ℕ) → IsNodeOf size T ordered f a → (a ≡ 0 → ⊥) → ((v : ℤ) → T.stored a ≡ OwnNumber v → ⊥) → T.check q ≡ pos a → InRange size (T.stored a)
owner_ranged size T ordered f a q k z n o = elim (node_base size T ordered f a k z n) [
  | inl b ↦ let x = node_at_end size T f a (follow_on k.path []) k.holds k.at.0 k.at.1 z in absurd (bare_owns size T a x.head x.labels z b x.family q o)
  | inr r ↦ r
]

-- the child is there
pub child_there : (T : Fields) (f : Forest) (a l s : ℕ) → HoldsTree (size_of T) (cells_in T) f → s ≡ below (cells_in T) a l → 0 < l → s < size_of T → (cells_in T).check s ≡ pos a → StepsTo T T a l s
child_there T f a l s holds e p inside owned =
    let mine : (cells_in T).check (below (cells_in T) a l) ≡ pos a = ap (cells_in T).check (sym e) ∙ owned in
    record {
      inside = inside;
      not_root = λ z. holds.root a (ap (cells_in T).check (sym z) ∙ owned);
      at = λ w on. subst (IsAt (cells_in T) (w ++ l ∷ [])) (sym e) (at_child (size_of T) (cells_in T) f w a holds on l p mine);
      tree = λ u w h up on.
          let has : has_label (node_at (root_of u) w).children l ≡ true = at_owned (size_of T) (cells_in T) u w a h on l p mine in
          subst (λ b. HoldsTree (size_of T) (cells_in T) (cond b (root_of u) (with_leaf (root_of u) T.ordered w l)).children) (sym has) h;
      leaf = λ n. absurd (n mine);
      outside = λ _ x _ held. held;
      marks = marks_same (cells_in T);
    }

label_made : (size : ℕ) (ordered : Bool) (T T' : Cells) (a l : ℕ) → AddsLabel size ordered T T' a l → (T'.stored (below T' a l) ≡ AtBase 0) × (T'.check (below T' a l) ≡ pos a) × (below T' a l ≡ 0 → ⊥)
label_made size ordered T T' a l (inl k) = (k.0.leaf, k.0.taken, k.0.touches.not_root)
label_made size ordered T T' a l (inr k) = (k.1.leaf, k.1.taken, k.1.touches.not_root)

-- a label of the root takes a slot of block 0
added_outside : (size : ℕ) (ordered : Bool) (T T' : Cells) (l : ℕ) → T.stored 0 ≡ AtBase 0 → AddsLabel size ordered T T' 0 l → (x : ℕ) → 256 ≤ x → Held T' x → Held T x
added_outside size ordered T T' l base added x low (inl root) = inl root
added_outside size ordered T T' l base added x low (inr held) = by_way added
  where
    by_touch : T'.stored 0 ≡ AtBase 0 → l < 256 → Touches T T' 0 (below T' 0 l) → Held T x
    by_touch there small k = elim (cases_eq held.0 0) [
      | inl z ↦ elim (k.only x (held.1 ∙ ap pos z)) [
        | inl was ↦ inr (0, was)
        | inr taken ↦ let slot : below T' 0 l ≡ l = ap (λ st. bit_xor (base_in st) l) there ∙ xor_zero_l l in absurd (omega (arith, taken, slot))
      ]
      | inr n ↦ inr (held.0, k.back x held.0 held.1 n)
    ]

    by_way : AddsLabel size ordered T T' 0 l → Held T x
    by_way (inl k) = by_touch (k.0.low refl) k.0.small k.0.touches
    by_way (inr k) = by_touch (k.1.same_place ∙ base) k.1.small k.1.touches

-- a label added keeps each number where it is
added_marks : (size : ℕ) (ordered : Bool) (T T' : Cells) (a l : ℕ) (f : Forest) (u : List ℕ) → HoldsTree size T f → IsAt T u a → AddsLabel size ordered T T' a l → KeepsMarks T T'
added_marks size ordered T T' a l f u h at added = by_way added
  where
    by_touch : Touches T T' a (below T' a l) → 0 < l → (Held T (below T' a l) → ⊥) → (T'.stored a ≡ T.stored a) ⊎ ((v : ℤ) → T.stored a ≡ OwnNumber v → ⊥) → KeepsMarks T T'
    by_touch k p free at_a = label_marks size T T' f u a l h at k p free at_a

    by_way : AddsLabel size ordered T T' a l → KeepsMarks T T'
    by_way (inl k) = by_touch k.0.touches k.0.positive k.0.free (inr k.0.shared)
    by_way (inr k) = by_touch k.1.touches k.1.positive k.1.free (inl k.1.same_place)

-- the child is added, where there was room for it
pub child_added : (before mid after : Fields) (a l s r : ℕ) (f : Forest) (u : List ℕ) → HoldsTree (size_of before) (cells_in before) f → IsAt (cells_in before) u a → Placed before mid a l s → ((f : Forest) → HoldsTree (size_of before) (cells_in before) f → HoldsTree (size_of mid) (cells_in mid) f) → mid.ordered ≡ before.ordered
    → ((cells_in before).check (below (cells_in before) a l) ≡ pos a → ⊥) → AddsLabel (size_of mid) mid.ordered (cells_in mid) (cells_in after) s l → r ≡ below (cells_in after) s l → 0 < after.places.blocks.active
    → ((f : Forest) (w : List ℕ) → HoldsTree (size_of mid) (cells_in mid) f → (mid.ordered ≡ true → IsAscending f) → IsAt (cells_in mid) w s → HoldsTree (size_of after) (cells_in after) (edit_at w (λ n. n) (add_leaf mid.ordered l) f))
    → ((w : List ℕ) → IsAt (cells_in mid) w s → IsAt (cells_in after) (w ++ l ∷ []) r)
    → (cells_in mid).stored 0 ≡ AtBase 0 → (a ≡ 0 → s ≡ 0) → (a ≡ 0 → mid ≡ before)
    → StepsTo before after a l r
child_added before mid after a l s r g u standing here placed kept same absent added is some tree leaf base root unchanged =
    let made = label_made (size_of mid) mid.ordered (cells_in mid) (cells_in after) s l added in
    let held : Held (cells_in after) (below (cells_in after) s l) = inr (s, made.1) in
    record {
      inside = subst (λ x. x < size_of after) (sym is) (held_used after.layout after.places (below (cells_in after) s l) some held).0;
      not_root = λ z. made.2 (sym is ∙ z);
      at = λ w on. leaf w (placed.at w on);
      tree = λ f w h u on.
          let lacks : has_label (node_at (root_of f) w).children l ≡ false = at_lacks (size_of before) (cells_in before) f w a h on l absent in
          let there : HoldsTree (size_of after) (cells_in after) (edit_at w (λ n. n) (add_leaf mid.ordered l) f) = tree f w (kept f h) (λ o. u (sym same ∙ o)) (placed.at w on) in
          subst (λ b. HoldsTree (size_of after) (cells_in after) (cond b (root_of f) (with_leaf (root_of f) before.ordered w l)).children) (sym lacks)
          (subst (λ o. HoldsTree (size_of after) (cells_in after) (edit_at w (λ n. n) (add_leaf o l) f)) same there);
      leaf = λ _. ap (cells_in after).stored is ∙ made.0;
      outside = λ z x low held.
          subst (λ v. Held (cells_in v) x) (unchanged z)
          (added_outside (size_of mid) mid.ordered (cells_in mid) (cells_in after) l base (subst (λ q. AddsLabel (size_of mid) mid.ordered (cells_in mid) (cells_in after) q l) (root z) added) x low held);
      marks = marks_then (cells_in before) (cells_in mid) (cells_in after) placed.marks (added_marks (size_of mid) mid.ordered (cells_in mid) (cells_in after) s l g u (kept g standing) (placed.at u here) added);
    }

-- the child is added over a slot that another node had
pub child_added_over : (before mid after : Fields) (a l s r : ℕ) (f : Forest) (u : List ℕ) → HoldsTree (size_of before) (cells_in before) f → IsAt (cells_in before) u a → Reserves before mid a l s → mid.ordered ≡ before.ordered → ((cells_in before).check (below (cells_in before) a l) ≡ pos a → ⊥)
    → AddsLabel (size_of mid) mid.ordered (cells_without (cells_in mid) (below (cells_in mid) s l)) (cells_in after) s l → r ≡ below (cells_in after) s l → 0 < after.places.blocks.active
    → ((f : Forest) (w : List ℕ) → HoldsTree (size_of mid) (cells_without (cells_in mid) (below (cells_in mid) s l)) f → (mid.ordered ≡ true → IsAscending f) → IsAt (cells_without (cells_in mid) (below (cells_in mid) s l)) w s → HoldsTree (size_of after) (cells_in after) (edit_at w (λ n. n) (add_leaf mid.ordered l) f))
    → ((w : List ℕ) → IsAt (cells_without (cells_in mid) (below (cells_in mid) s l)) w s → IsAt (cells_in after) (w ++ l ∷ []) r)
    → (a ≡ 0 → ⊥) → StepsTo before after a l r
child_added_over before mid after a l s r g u standing here k same absent added is some tree leaf z =
    let made = label_made (size_of mid) mid.ordered (cells_without (cells_in mid) (below (cells_in mid) s l)) (cells_in after) s l added in
    let held : Held (cells_in after) (below (cells_in after) s l) = inr (s, made.1) in
    record {
      inside = subst (λ x. x < size_of after) (sym is) (held_used after.layout after.places (below (cells_in after) s l) some held).0;
      not_root = λ e. made.2 (sym is ∙ e);
      at = λ w on. leaf w (k.at w on);
      tree = λ f w h u on.
          let lacks : has_label (node_at (root_of f) w).children l ≡ false = at_lacks (size_of before) (cells_in before) f w a h on l absent in
          let there : HoldsTree (size_of after) (cells_in after) (edit_at w (λ n. n) (add_leaf mid.ordered l) f) = tree f w (k.tree f h) (λ o. u (sym same ∙ o)) (k.at w on) in
          subst (λ b. HoldsTree (size_of after) (cells_in after) (cond b (root_of f) (with_leaf (root_of f) before.ordered w l)).children) (sym lacks)
          (subst (λ o. HoldsTree (size_of after) (cells_in after) (edit_at w (λ n. n) (add_leaf o l) f)) same there);
      leaf = λ _. ap (cells_in after).stored is ∙ made.0;
      outside = λ e. absurd (z e);
      marks = marks_then (cells_in before) (cells_without (cells_in mid) (below (cells_in mid) s l)) (cells_in after) k.marks (added_marks (size_of mid) mid.ordered (cells_without (cells_in mid) (below (cells_in mid) s l)) (cells_in after) s l g u (k.tree g standing) (k.at u here) added);
    }
