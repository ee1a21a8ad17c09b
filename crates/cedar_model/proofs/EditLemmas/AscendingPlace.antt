-- Taking a slot and linking it behind a smaller label is adding a label at its ascending place.
use Rattle.std.proofs.Common.{◌≡◌, ℕ, ◌<◌, ◌≤◌, sym, ◌∙◌, ap, refl, subst, inl, inr, arith, true}
use Rattle.std.specs.Prelude.{pos}
use Rattle.std.proofs.lemmas.Bool.{cases_eq, cases_lt}
use Rattle.cedar_model.specs.declared.layout.Stored.TheVariants.{AtBase}
use Rattle.cedar_model.specs.Table.Cells.{Cells, Held, Takes}
use Rattle.cedar_model.specs.Meaning.Family.{Among, base_of, below, Links}
use Rattle.cedar_model.specs.Edit.NodeEdits.{AddsBehind, CanAdd, HasChain, IsLabelOf, IsPlaceFor, LinkedBehind, Touches}
use Rattle.cedar_model.proofs.MeaningLemmas.Chain.{chain_start, first_links, greater_next, lead_links, least}
use Rattle.cedar_model.proofs.EditLemmas.LinkInFront.{leaf_alone, not_x, place, same, touches}
use Rattle.cedar_model.proofs.MeaningLemmas.OneNode.{owned_label}
use Rattle.cedar_model.proofs.MeaningLemmas.ExclusiveOr.{xor_injective}

module _ (size : ℕ) (T T₁ T₂ : Cells) (a l : ℕ) (k : CanAdd size T a l) (t : Takes T T₁ (below T a l) a) (bare : T₁.stored (below T a l) ≡ AtBase 0)
    (chain : HasChain size T true a) (b m : ℕ) (less : m < l) (label : IsLabelOf T a m b) (goes : IsPlaceFor l (T.sibling b)) (w : LinkedBehind T₁ T₂ b (below T a l) l) where
  held_b : Held T b
  held_b = inr (a, label.owner)

  sibling_away : (q : ℕ) → Held T q → (T.check q ≡ pos a → ⊥) → (q ≡ 0 → 0 ≡ a → ⊥) → T₂.sibling q ≡ T₁.sibling q
  sibling_away q h n z = w.other q (λ e. n (ap T.check e ∙ label.owner)) (λ e. k.free (subst (Held T) e h))

  off_x : (q : ℕ) → Held T q → q ≡ below T a l → ⊥
  off_x = not_x size T T₁ T₂ a l k t w.stored w.base w.check (λ q _. w.child q) sibling_away

  place_here : T₂.stored a ≡ T.stored a
  place_here = place size T T₁ T₂ a l k t w.stored w.base w.check (λ q _. w.child q) sibling_away

  same_here : below T a l ≡ below T₂ a l
  same_here = same size T T₁ T₂ a l k t w.stored w.base w.check (λ q _. w.child q) sibling_away

  touches_here : Touches T T₂ a (below T a l)
  touches_here = touches size T T₁ T₂ a l k t w.stored w.base w.check (λ q _. w.child q) sibling_away

  alone_here : (q : ℕ) → T₂.check q ≡ pos (below T a l) → ⊥
  alone_here = leaf_alone size T T₁ T₂ a l k t w.stored w.base w.check (λ q _. w.child q) sibling_away

  -- another slot's link is as it was
  kept : (q : ℕ) → Held T q → (q ≡ b → ⊥) → T₂.sibling q ≡ T.sibling q
  kept q h n = w.other q n (off_x q h) ∙ (t.other q (off_x q h) h).sibling

  among : (j : ℕ) → T.check (below T a j) ≡ pos a → 0 < j → Among chain.listed j
  among j o p = owned_label size T a j chain.head chain.listed chain.family (λ z. omega (arith, z, p)) o

  mine : T.check (below T a m) ≡ pos a
  mine = ap T.check (sym label.is) ∙ label.owner

  among_m : Among chain.listed m
  among_m = among m mine label.positive

  -- the chain begins below l
  begins : (c : ℕ) → Links T a c chain.listed → (c ≡ 0 → ⊥) × (c < l)
  begins c links = let first = least T a c chain.listed links (chain.ascends refl) m among_m in (first.0, omega (arith, first.1, less))

  next_of : (x : ℕ) → Among chain.listed x → (y : ℕ) → Among chain.listed y → x < y → (T.sibling (below T a x) ≡ 0 → ⊥) × (T.sibling (below T a x) ≤ y)
  next_of x i y j less = let start = chain_start size T true a chain in greater_next T a start.0 chain.listed start.1 (chain.ascends refl) x y i j less

  -- no other label's place is before l
  only_place : (j : ℕ) → T.check (below T a j) ≡ pos a → 0 < j → j < l → IsPlaceFor l (T.sibling (below T a j)) → j ≡ m
  only_place j o p low here = elim (cases_eq j m) [
    | inl e ↦ e
    | inr other ↦ elim (cases_lt j m) [
      | inl h ↦
          let n = next_of j (among j o p) m among_m h in
          elim here [ inl z ↦ absurd (n.0 z) | inr above ↦ absurd (omega (arith, n.1, above, less)) ]
      | inr h ↦
          let n = next_of m among_m j (among j o p) (omega (arith, h, other)) in
          elim goes [
            | inl z ↦ absurd (n.0 (ap T.sibling (sym label.is) ∙ z))
            | inr above ↦ absurd (omega (arith, n.1, subst (λ y. l < T.sibling y) label.is above, low))
          ]
    ]
  ]

  slot_apart : (j : ℕ) → (j ≡ m → ⊥) → below T a j ≡ b → ⊥
  slot_apart j n e = n (xor_injective (base_of T a) j m (e ∙ label.is))

  pub adds_behind_label : AddsBehind size T T₂ a l
  adds_behind_label = record {
    touches = subst (λ x. Touches T T₂ a x) same_here touches_here;
    positive = k.positive;
    small = k.small;
    same_place = place_here;
    free = subst (λ x. Held T x → ⊥) same_here k.free;
    taken = ap T₂.check (sym same_here) ∙ w.check (below T a l) ∙ t.at;
    leaf = ap T₂.stored (sym same_here) ∙ w.stored (below T a l) ∙ bare;
    leaf_child = ap T₂.child (sym same_here) ∙ w.child (below T a l) ∙ t.child;
    leaf_alone = λ q e. alone_here q (e ∙ ap pos (sym same_here));
    at_root = λ z.
        let root : T₂.sibling a ≡ T.sibling a = kept a k.held (λ e. k.root a (ap T.check (sym z ∙ e) ∙ label.owner)) in
        let low = begins _ (lead_links size T true a a chain (inl (z, z))) in
        (root, low.0, low.1);
    child_same = w.child a ∙ (t.other a (off_x a k.held) k.held).child;
    at_node = λ z n. begins _ (first_links size T true a chain z n);
    at_number = λ o.
        let h : Held T (below T a 0) = inr (a, o) in
        let s = t.other _ (off_x _ h) h in
        let low = begins _ (lead_links size T true a (below T a 0) chain (inr (o, refl))) in
        (w.base _ ∙ s.base, w.child _ ∙ s.child, kept _ h (slot_apart 0 (λ z. omega (arith, z, label.positive))), low.0, low.1);
    before = λ j o p low some more. kept _ (inr (a, o)) (slot_apart j (λ e.
        let here : T.sibling b ≡ T.sibling (below T a j) = ap T.sibling (label.is ∙ ap (below T a) (sym e)) in
        elim goes [ inl z ↦ some (sym here ∙ z) | inr above ↦ omega (arith, above, here, more) ]));
    here = λ j o p low place.
        let e : j ≡ m = only_place j o p low place in
        let at : below T a j ≡ b = ap (below T a) e ∙ sym label.is in (
          ap T₂.sibling at ∙ w.at,
          ap T₂.sibling (sym same_here) ∙ w.next ∙ (t.other b (off_x b held_b) held_b).sibling ∙ ap T.sibling (sym at),
        );
    after = λ j o above. kept _ (inr (a, o)) (slot_apart j (λ e. omega (arith, e, above, less)));
  }
