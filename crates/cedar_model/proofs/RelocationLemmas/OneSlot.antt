-- Re-pointing, taking, copying and giving back together are the renaming of one slot.
use Rattle.std.proofs.Common.{◌≡◌, ℕ, sym, ◌∙◌, ap, subst, inl, inr, refl}
use Rattle.std.specs.Prelude.{pos}
use Rattle.std.proofs.lemmas.Bool.{cases_eq}
use Rattle.cedar_model.specs.Table.Cells.{Cells, Held, SameAt, Takes, Gives, InfoWritten}
use Rattle.cedar_model.specs.Relocation.Renaming.{Always, Renames, Repointed, single}
use Rattle.cedar_model.proofs.MeaningLemmas.ExclusiveOr.{pos_injective}
use Rattle.cedar_model.proofs.RelocationLemmas.Repointed.{owner_cases}
use Rattle.cedar_model.proofs.RelocationLemmas.SlotBySlot.{single_at, single_other}

-- slot b has been overwritten by what slot a has
pub record Copies (T T' : Cells) (a b : ℕ) : Type 0 where
  pub at : SameAt T T' a b
  pub other : (x : ℕ) → (x ≡ b → ⊥) → SameAt T T' x x

-- the slot b was taken with the base of slot a, and given its labels
pub copied : (T₁ T₂ T₃ : Cells) (a b c x y : ℕ) → T₁.check a ≡ pos c → (a ≡ b → ⊥) → Takes T₁ T₂ b c → T₂.base b ≡ T₁.base a → T₂.stored b ≡ T₁.stored a → InfoWritten T₂ T₃ b x y → x ≡ T₂.sibling a → y ≡ T₂.child a → Copies T₂ T₃ a b
copied T₁ T₂ T₃ a b c x y mine apart t base stored w sibling child =
    let same = t.other a apart (inr (c, mine)) in
    record {
      at = record {
        base = w.base b ∙ base ∙ sym same.base;
        stored = w.stored b ∙ stored ∙ sym same.stored;
        check = w.check b ∙ t.at ∙ sym mine ∙ sym same.check;
        sibling = w.sibling_at ∙ sibling;
        child = w.child_at ∙ child;
      };
      other = λ q n. record { base = w.base q; stored = w.stored q; check = w.check q; sibling = w.sibling q n; child = w.child q n };
    }

module _ (T T₁ T₂ T₃ T₄ : Cells) (a b c : ℕ)
    (mine : T.check a ≡ pos c) (not_own : c ≡ a → ⊥) (free : Held T b → ⊥) (root : (d : ℕ) → T.check 0 ≡ pos d → ⊥)
    (r : Repointed T T₁ a b Always) (t : Takes T₁ T₂ b c) (w : Copies T₂ T₃ a b) (g : Gives T₃ T₄ a) where
  held_a : Held T a
  held_a = inr (c, mine)

  a_not_b : a ≡ b → ⊥
  a_not_b e = free (subst (Held T) e held_a)

  held_first : (q : ℕ) → Held T q → Held T₁ q
  held_first q (inl e) = inl e
  held_first q (inr v) = elim (owner_cases (T.check q) a) [ inl e ↦ inr (b, r.pointed q e tt) | inr n ↦ inr (v.0, r.kept q (λ e _. n e) ∙ v.1) ]

  held_last : (q : ℕ) → Held T q → (q ≡ b → ⊥) → Held T₃ q
  held_last q (inl e) n = inl e
  held_last q (inr v) n =
      elim (held_first q (inr v)) [
        | inl e ↦ inl e
        | inr u ↦ inr (u.0, (w.other q n).check ∙ (t.other q n (inr u)).check ∙ u.1)
      ]

  -- what a held slot other than a has kept through all steps
  kept_base : (q : ℕ) → Held T q → (q ≡ a → ⊥) → T₄.base q ≡ T.base q
  kept_base q h n =
      let m : q ≡ b → ⊥ = λ e. free (subst (Held T) e h) in
      (g.other q n (held_last q h m)).base ∙ (w.other q m).base ∙ (t.other q m (held_first q h)).base ∙ r.base q

  kept_stored : (q : ℕ) → Held T q → (q ≡ a → ⊥) → T₄.stored q ≡ T.stored q
  kept_stored q h n =
      let m : q ≡ b → ⊥ = λ e. free (subst (Held T) e h) in
      (g.other q n (held_last q h m)).stored ∙ (w.other q m).stored ∙ (t.other q m (held_first q h)).stored ∙ r.stored q

  kept_sibling : (q : ℕ) → Held T q → (q ≡ a → ⊥) → T₄.sibling q ≡ T.sibling q
  kept_sibling q h n =
      let m : q ≡ b → ⊥ = λ e. free (subst (Held T) e h) in
      (g.other q n (held_last q h m)).sibling ∙ (w.other q m).sibling ∙ (t.other q m (held_first q h)).sibling ∙ r.sibling q

  kept_child : (q : ℕ) → Held T q → (q ≡ a → ⊥) → T₄.child q ≡ T.child q
  kept_child q h n =
      let m : q ≡ b → ⊥ = λ e. free (subst (Held T) e h) in
      (g.other q n (held_last q h m)).child ∙ (w.other q m).child ∙ (t.other q m (held_first q h)).child ∙ r.child q

  kept_check : (q : ℕ) → Held T q → (q ≡ a → ⊥) → T₄.check q ≡ T₁.check q
  kept_check q h n =
      let m : q ≡ b → ⊥ = λ e. free (subst (Held T) e h) in
      (g.other q n (held_last q h m)).check ∙ (w.other q m).check ∙ (t.other q m (held_first q h)).check

  b_not_a : b ≡ a → ⊥
  b_not_a e = a_not_b (sym e)

  first_check : T₁.check a ≡ pos c
  first_check = r.kept a (λ e _. not_own (pos_injective c a (sym mine ∙ e))) ∙ mine

  third_check : T₃.check b ≡ pos c
  third_check = w.at.check ∙ (t.other a a_not_b (inr (c, first_check))).check ∙ first_check

  held_b : Held T₃ b
  held_b = inr (c, third_check)

  at_a : SameAt T₁ T₄ a b
  at_a =
      let x = g.other b b_not_a held_b in let y = t.other a a_not_b (inr (c, first_check)) in
      record {
        base = x.base ∙ w.at.base ∙ y.base;
        stored = x.stored ∙ w.at.stored ∙ y.stored;
        check = x.check ∙ w.at.check ∙ y.check;
        sibling = x.sibling ∙ w.at.sibling ∙ y.sibling;
        child = x.child ∙ w.at.child ∙ y.child;
      }

  renamed_check : (q d : ℕ) → T.check q ≡ pos d → T₄.check (single a b q) ≡ pos (single a b d)
  renamed_check q d e =
      elim (cases_eq q a) [
        | inl same ↦
            let owner : d ≡ c = pos_injective d c (sym e ∙ ap T.check same ∙ mine) in
            ap (λ x. T₄.check (single a b x)) same ∙ ap T₄.check (single_at a b) ∙ at_a.check ∙ first_check ∙ ap pos (sym (single_other a b c not_own) ∙ ap (single a b) (sym owner))
        | inr n ↦
            ap T₄.check (single_other a b q n) ∙ kept_check q (inr (d, e)) n ∙
            elim (cases_eq d a) [
              | inl same ↦ r.pointed q (e ∙ ap pos same) tt ∙ ap pos (sym (single_at a b) ∙ ap (single a b) (sym same))
              | inr m ↦ r.kept q (λ o _. m (pos_injective d a (sym e ∙ o))) ∙ e ∙ ap pos (sym (single_other a b d m))
            ]
      ]

  renamed_base : (q : ℕ) → Held T q → T₄.base (single a b q) ≡ T.base q
  renamed_base q h = elim (cases_eq q a) [
    | inl same ↦ ap (λ x. T₄.base (single a b x)) same ∙ ap T₄.base (single_at a b) ∙ at_a.base ∙ r.base a ∙ ap T.base (sym same)
    | inr n ↦ ap T₄.base (single_other a b q n) ∙ kept_base q h n
  ]

  renamed_stored : (q : ℕ) → Held T q → T₄.stored (single a b q) ≡ T.stored q
  renamed_stored q h = elim (cases_eq q a) [
    | inl same ↦ ap (λ x. T₄.stored (single a b x)) same ∙ ap T₄.stored (single_at a b) ∙ at_a.stored ∙ r.stored a ∙ ap T.stored (sym same)
    | inr n ↦ ap T₄.stored (single_other a b q n) ∙ kept_stored q h n
  ]

  renamed_sibling : (q : ℕ) → Held T q → T₄.sibling (single a b q) ≡ T.sibling q
  renamed_sibling q h = elim (cases_eq q a) [
    | inl same ↦ ap (λ x. T₄.sibling (single a b x)) same ∙ ap T₄.sibling (single_at a b) ∙ at_a.sibling ∙ r.sibling a ∙ ap T.sibling (sym same)
    | inr n ↦ ap T₄.sibling (single_other a b q n) ∙ kept_sibling q h n
  ]

  renamed_child : (q : ℕ) → Held T q → T₄.child (single a b q) ≡ T.child q
  renamed_child q h = elim (cases_eq q a) [
    | inl same ↦ ap (λ x. T₄.child (single a b x)) same ∙ ap T₄.child (single_at a b) ∙ at_a.child ∙ r.child a ∙ ap T.child (sym same)
    | inr n ↦ ap T₄.child (single_other a b q n) ∙ kept_child q h n
  ]

  back_first : (q d : ℕ) → (q ≡ a → ⊥) → T₁.check q ≡ pos d → (o : ℕ) × (e : ℕ) × (T.check o ≡ pos e) × (single a b o ≡ q) × (single a b e ≡ d)
  back_first q d n u = elim (owner_cases (T.check q) a) [
    | inl o ↦ (q, a, o, single_other a b q n, single_at a b ∙ pos_injective b d (sym (r.pointed q o tt) ∙ u))
    | inr m ↦
        let e : T.check q ≡ pos d = sym (r.kept q (λ o _. m o)) ∙ u in
        (q, d, e, single_other a b q n, single_other a b d (λ s. m (e ∙ ap pos s)))
  ]

  renamed_back : (q d : ℕ) → T₄.check q ≡ pos d → (o : ℕ) × (e : ℕ) × (T.check o ≡ pos e) × (single a b o ≡ q) × (single a b e ≡ d)
  renamed_back q d u =
      let n : q ≡ a → ⊥ = λ e. g.gone (subst (Held T₄) e (inr (d, u))) in
      let u₃ : T₃.check q ≡ pos d = sym (g.other q n (g.free q (inr (d, u)))).check ∙ u in
      elim (cases_eq q b) [
        | inl e ↦
            (a, c, mine, single_at a b ∙ sym e, single_other a b c not_own ∙ pos_injective c d (sym third_check ∙ ap T₃.check (sym e) ∙ u₃))
        | inr m ↦
            let u₂ : T₂.check q ≡ pos d = sym (w.other q m).check ∙ u₃ in
            let u₁ : T₁.check q ≡ pos d = sym (t.other q m (t.free q m (inr (d, u₂)))).check ∙ u₂ in
            back_first q d n u₁
      ]

  renamed_apart : (x y : ℕ) → Held T x → Held T y → single a b x ≡ single a b y → x ≡ y
  renamed_apart x y hx hy e =
      elim (cases_eq x a) [
        | inl p ↦ elim (cases_eq y a) [
          | inl q ↦ p ∙ sym q
          | inr n ↦ absurd (free (subst (Held T) (sym (single_other a b y n) ∙ sym e ∙ ap (single a b) p ∙ single_at a b) hy))
        ]
        | inr m ↦ elim (cases_eq y a) [
          | inl q ↦ absurd (free (subst (Held T) (sym (single_other a b x m) ∙ e ∙ ap (single a b) q ∙ single_at a b) hx))
          | inr n ↦ sym (single_other a b x m) ∙ e ∙ single_other a b y n
        ]
      ]

  root_apart : 0 ≡ a → ⊥
  root_apart e = root c (ap T.check e ∙ mine)

  pub move_renames : Renames T T₄ (single a b)
  move_renames = record {
    root = single_other a b 0 root_apart;
    root_check = kept_check 0 (inl refl) root_apart ∙ r.kept 0 (λ o _. root a o);
    check = renamed_check;
    base = renamed_base;
    stored = renamed_stored;
    sibling = renamed_sibling;
    child = renamed_child;
    back = renamed_back;
    apart = renamed_apart;
  }
