-- Taking a slot and linking it in front is adding a first label.
use Rattle.std.proofs.Common.{List, [], ◌∷◌, ◌≡◌, ℕ, ◌<◌, ◌≤◌, sym, ◌∙◌, ap, refl, subst, inl, inr, arith}
use Rattle.std.specs.Prelude.{ℤ, pos, bit_xor, ◌⊎◌}
use Rattle.std.proofs.lemmas.Bool.{cases_eq}
use Rattle.cedar_model.specs.declared.layout.Stored.TheVariants.{AtBase, OwnNumber}
use Rattle.cedar_model.specs.Table.Cells.{Cells, Held, Takes}
use Rattle.cedar_model.specs.Meaning.Family.{base_in, below, InRange}
use Rattle.cedar_model.specs.Edit.NodeEdits.{Touches, AddsFirst, CanAdd, LinkedBehind, LinkedChild}
use Rattle.cedar_model.proofs.MeaningLemmas.ExclusiveOr.{pos_injective}
use Rattle.cedar_model.proofs.MeaningLemmas.Paths.{one_path, owner_held}
use Rattle.cedar_model.proofs.EditLemmas.ChangeAtPath.{longer_path}
use Rattle.cedar_model.specs.Meaning.StandsFor.{slot_at, OnPath, HoldsTree}
use Rattle.cedar_tree.specs.Tree.{Forest}

-- a slot taken, and links set that are a's own, touch a alone
module _ (size : ℕ) (T T₁ T₂ : Cells) (a l : ℕ) (k : CanAdd size T a l) (t : Takes T T₁ (below T a l) a)
    (stored : (q : ℕ) → T₂.stored q ≡ T₁.stored q) (base : (q : ℕ) → T₂.base q ≡ T₁.base q) (check : (q : ℕ) → T₂.check q ≡ T₁.check q)
    (child : (q : ℕ) → (q ≡ a → ⊥) → T₂.child q ≡ T₁.child q)
    (sibling : (q : ℕ) → Held T q → (T.check q ≡ pos a → ⊥) → (q ≡ 0 → 0 ≡ a → ⊥) → T₂.sibling q ≡ T₁.sibling q) where
  pub not_x : (q : ℕ) → Held T q → q ≡ below T a l → ⊥
  not_x q h e = k.free (subst (Held T) e h)

  pub place : T₂.stored a ≡ T.stored a
  place = stored a ∙ (t.other a (not_x a k.held) k.held).stored

  pub same : below T a l ≡ below T₂ a l
  same = ap (λ z. bit_xor (base_in z) l) (sym place)

  pub was : (q c : ℕ) → (q ≡ below T a l → ⊥) → T₂.check q ≡ pos c → T.check q ≡ pos c
  was q c n o =
      let first : T₁.check q ≡ pos c = sym (check q) ∙ o in
      let h : Held T q = t.free q n (inr (c, first)) in
      sym (t.other q n h).check ∙ first

  pub touches : Touches T T₂ a (below T a l)
  touches = record {
    base = λ q h n m. base q ∙ (t.other q m h).base;
    stored = λ q h n m. stored q ∙ (t.other q m h).stored;
    child = λ q h n m. child q n ∙ (t.other q m h).child;
    sibling = λ q c o n.
        let h : Held T q = inr (c, o) in
        sibling q h (λ z. n (pos_injective c a (sym o ∙ z))) (λ z _. k.root c (subst (λ y. T.check y ≡ pos c) z o)) ∙ (t.other q (not_x q h) h).sibling;
    check = λ q c o n. let h : Held T q = inr (c, o) in check q ∙ (t.other q (not_x q h) h).check ∙ o;
    back = λ q c o n. elim (cases_eq q (below T a l)) [
      | inl e ↦ absurd (n (pos_injective c a (sym (sym (check q) ∙ o) ∙ ap T₁.check e ∙ t.at)))
      | inr m ↦ was q c m o
    ];
    root = λ z. sibling 0 (inl refl) (λ o. k.root a o) (λ _. z) ∙ (t.other 0 (not_x 0 (inl refl)) (inl refl)).sibling;
    place = λ q o. place;
    mine = λ q o m. check q ∙ (t.other q m (inr (a, o))).check ∙ o;
    only = λ q o. elim (cases_eq q (below T a l)) [ inl e ↦ inr e | inr m ↦ inl (was q a m o) ];
    alone = k.alone;
    owner = λ c o. absurd (k.free (inr (c, o)));
    not_root = λ z. k.free (inl z);
  }

  pub a_not_x : below T a l ≡ a → ⊥
  a_not_x e = not_x a k.held (sym e)

  pub leaf_alone : (q : ℕ) → T₂.check q ≡ pos (below T a l) → ⊥
  leaf_alone q o = elim (cases_eq q (below T a l)) [
    | inl s ↦ a_not_x (sym (pos_injective a _ (sym t.at ∙ ap T₁.check (sym s) ∙ sym (check q) ∙ o)))
    | inr m ↦ k.alone q (was q _ m o)
  ]

module _ (size : ℕ) (T T₁ T₂ : Cells) (a l : ℕ) (k : CanAdd size T a l) (t : Takes T T₁ (below T a l) a) (bare : T₁.stored (below T a l) ≡ AtBase 0)
    (stored : (q : ℕ) → T₂.stored q ≡ T₁.stored q) (base : (q : ℕ) → T₂.base q ≡ T₁.base q) (check : (q : ℕ) → T₂.check q ≡ T₁.check q)
    (child : (q : ℕ) → (q ≡ a → ⊥) → T₂.child q ≡ T₁.child q)
    (sibling : (q : ℕ) → Held T q → ((T.check q ≡ pos a → ⊥) × (q ≡ 0 → 0 ≡ a → ⊥)) ⊎ (T.check q ≡ pos a × (q ≡ below T a 0 → ⊥)) → T₂.sibling q ≡ T₁.sibling q)
    (at_root : a ≡ 0 → (T₂.child a ≡ T.child a) × (T₂.sibling a ≡ l) × (T₂.sibling (below T a l) ≡ T.sibling a))
    (at_node : (a ≡ 0 → ⊥) → (T.check (below T a 0) ≡ pos a → ⊥) → (T₂.child a ≡ l) × (T₂.sibling (below T a l) ≡ T.child a))
    (at_number : T.check (below T a 0) ≡ pos a → (T₂.child a ≡ T.child a) × (T₂.sibling (below T a 0) ≡ l) × (T₂.sibling (below T a l) ≡ T.sibling (below T a 0))) where
  not_x_here : (q : ℕ) → Held T q → q ≡ below T a l → ⊥
  not_x_here = not_x size T T₁ T₂ a l k t stored base check child (λ q h n z. sibling q h (inl (n, z)))

  place_here : T₂.stored a ≡ T.stored a
  place_here = place size T T₁ T₂ a l k t stored base check child (λ q h n z. sibling q h (inl (n, z)))

  same_here : below T a l ≡ below T₂ a l
  same_here = same size T T₁ T₂ a l k t stored base check child (λ q h n z. sibling q h (inl (n, z)))

  touches_here : Touches T T₂ a (below T a l)
  touches_here = touches size T T₁ T₂ a l k t stored base check child (λ q h n z. sibling q h (inl (n, z)))

  a_not_x_here : below T a l ≡ a → ⊥
  a_not_x_here = a_not_x size T T₁ T₂ a l k t stored base check child (λ q h n z. sibling q h (inl (n, z)))

  leaf_alone_here : (q : ℕ) → T₂.check q ≡ pos (below T a l) → ⊥
  leaf_alone_here = leaf_alone size T T₁ T₂ a l k t stored base check child (λ q h n z. sibling q h (inl (n, z)))

  shared : (v : ℤ) → T.stored a ≡ OwnNumber v → ⊥
  shared v e = elim (cases_eq a 0) [
    | inl z ↦ let w : AtBase 0 ≡ OwnNumber v = sym (k.low z) ∙ e in differ w
    | inr n ↦ let w : 256 ≤ base_in (OwnNumber v) = subst (λ s. 256 ≤ base_in s) e (k.in_range n).0 in omega arith
  ]
    where
      differ : AtBase 0 ≡ OwnNumber v → ⊥
      differ w = cc

  number_held : T.check (below T a 0) ≡ pos a → Held T (below T a 0)
  number_held o = inr (a, o)

  number_not_a : T.check (below T a 0) ≡ pos a → below T a 0 ≡ a → ⊥
  number_not_a o e = k.not_own (subst (λ x. T.check x ≡ pos a) e o)

  pub adds_first : AddsFirst size T T₂ a l
  adds_first = record {
    touches = subst (λ x. Touches T T₂ a x) same_here touches_here;
    positive = k.positive;
    small = k.small;
    shared = shared;
    low = λ z. place_here ∙ k.low z;
    in_range = λ n. subst (InRange size) (sym place_here) (k.in_range n);
    free = subst (λ x. Held T x → ⊥) same_here k.free;
    taken = ap T₂.check (sym same_here) ∙ check (below T a l) ∙ t.at;
    leaf = ap T₂.stored (sym same_here) ∙ stored (below T a l) ∙ bare;
    leaf_child = ap T₂.child (sym same_here) ∙ child (below T a l) a_not_x_here ∙ t.child;
    leaf_alone = λ q e. leaf_alone_here q (e ∙ ap pos (sym same_here));
    next = λ q o n. let h : Held T q = inr (a, o) in sibling q h (inr (o, n)) ∙ (t.other q (not_x_here q h) h).sibling;
    at_root = λ z. let w = at_root z in (w.0, w.1, ap T₂.sibling (sym same_here) ∙ w.2);
    at_node = λ z n. let w = at_node z n in (w.0, ap T₂.sibling (sym same_here) ∙ w.1);
    at_number = λ o.
        let w = at_number o in
        let h = number_held o in
        let s = t.other (below T a 0) (not_x_here _ h) h in
        (w.0, base _ ∙ s.base, child _ (number_not_a o) ∙ s.child, w.1, ap T₂.sibling (sym same_here) ∙ w.2);
  }

module _ (size : ℕ) (T T₁ T₂ : Cells) (a l : ℕ) (k : CanAdd size T a l) (t : Takes T T₁ (below T a l) a) (bare : T₁.stored (below T a l) ≡ AtBase 0) where
  off : (q : ℕ) → Held T q → q ≡ below T a l → ⊥
  off q h e = k.free (subst (Held T) e h)

  -- the root has no number's slot
  lead_zero : a ≡ 0 → T.check (below T a 0) ≡ pos a → ⊥
  lead_zero z o =
      let at : below T a 0 ≡ 0 = ap (λ s. bit_xor (base_in s) 0) (k.low z) in
      k.root a (ap T.check (sym at) ∙ o)

  -- linked behind the slot b, the root's own or that of a's number
  pub adds_behind : (b : ℕ) → LinkedBehind T₁ T₂ b (below T a l) l → (a ≡ 0 × b ≡ 0) ⊎ (T.check (below T a 0) ≡ pos a × b ≡ below T a 0) → AddsFirst size T T₂ a l
  adds_behind b w lead =
      let a_held = t.other a (off a k.held) k.held in
      adds_first size T T₁ T₂ a l k t bare w.stored w.base w.check (λ q n. w.child q)
      (λ q h c. w.other q (λ e. elim lead [
        | inl z ↦ elim c [ inl c ↦ c.1 (e ∙ z.1) (sym z.0) | inr c ↦ k.root a (subst (λ y. T.check y ≡ pos a) (e ∙ z.1) c.0) ]
        | inr n ↦ elim c [ inl c ↦ c.0 (ap T.check (e ∙ n.1) ∙ n.0) | inr c ↦ c.1 (e ∙ n.1) ]
      ]) (off q h))
      (λ z. elim lead [
        | inl y ↦
            let same : a ≡ b = y.0 ∙ sym y.1 in
            (w.child a ∙ a_held.child, ap T₂.sibling same ∙ w.at, w.next ∙ ap T₁.sibling (sym same) ∙ a_held.sibling)
        | inr n ↦ absurd (lead_zero z n.0)
      ])
      (λ z n. elim lead [ inl y ↦ absurd (z y.0) | inr y ↦ absurd (n y.0) ])
      (λ o. elim lead [
        | inl y ↦ absurd (lead_zero y.0 o)
        | inr n ↦
            let h : Held T (below T a 0) = inr (a, o) in
            (w.child a ∙ a_held.child, ap T₂.sibling (sym n.1) ∙ w.at, w.next ∙ ap T₁.sibling n.1 ∙ (t.other _ (off _ h) h).sibling)
      ])

  -- linked as the first child
  pub adds_child : LinkedChild T₁ T₂ a (below T a l) l → (a ≡ 0 → ⊥) → (T.check (below T a 0) ≡ pos a → ⊥) → AddsFirst size T T₂ a l
  adds_child w z n =
      let a_held = t.other a (off a k.held) k.held in
      adds_first size T T₁ T₂ a l k t bare w.stored w.base w.check w.child
      (λ q h c. w.other q (off q h))
      (λ e. absurd (z e))
      (λ e m. (w.at, w.next ∙ a_held.child))
      (λ o. absurd (n o))

-- what a caller has to show in a well-formed table: the slot is free, and the node has a base unless it is the root
pub can_add : (size : ℕ) (T : Cells) (f : Forest) (P : List ℕ) (l : ℕ) → HoldsTree size T f → OnPath T P → 0 < l → l < 256
    → ((slot_at T P ≡ 0 → ⊥) → InRange size (T.stored (slot_at T P))) → (Held T (below T (slot_at T P) l) → ⊥) → CanAdd size T (slot_at T P) l
can_add size T f P l w h p s based free = record {
  held = held P h;
  positive = p;
  small = s;
  low = λ z. ap T.stored z ∙ w.stands.0.based;
  in_range = based;
  free = free;
  alone = λ q o. free (owner_held size T f w q _ o);
  root = w.root;
  not_own = not_own P h;
}
  where
    held : (v : List ℕ) → OnPath T v → Held T (slot_at T v)
    held [] g = inl refl
    held (m ∷ v) g = inr (slot_at T v, g.1)

    not_own : (v : List ℕ) → OnPath T v → T.check (slot_at T v) ≡ pos (slot_at T v) → ⊥
    not_own [] g e = w.root 0 e
    not_own (m ∷ v) g e = longer_path [] v m (one_path T w.root (m ∷ v) v g g.2 (pos_injective _ _ (sym e ∙ g.1)))
