-- A label behind all others of its node.
use Rattle.std.proofs.Common.{◌≡◌, ℕ, true, ◌⊎◌, ◌∙◌, sym, subst, refl, inl, inr, Option, Some, None}
use Rattle.std.specs.Prelude.{MatchOption}
use Rattle.std.proofs.lemmas.Bool.{cases_eq}
use Rattle.cedar_model.specs.declared.layout.Stored.TheVariants.{AtBase}
use Rattle.cedar_model.specs.Table.Cells.{Cells, Held, Takes}
use Rattle.cedar_model.specs.Edit.NodeEdits.{GoesBehind, GoesFirst, LinkedBehind, LinkedChild, SetsChild, SetsSibling}
use Rattle.cedar_model.proofs.EditLemmas.SlotForLabel.{held_behind}

-- what a label goes behind is held
pub behind_held : (size : ℕ) (T : Cells) (a l : ℕ) (before : Option ℕ) → MatchOption before (GoesFirst T true a l) (λ b. GoesBehind size T true a l b) → (b : ℕ) → before ≡ Some b → Held T b
behind_held size T a l None goes b e = cc
behind_held size T a l (Some x) goes b e = let same : x ≡ b = cc in subst (Held T) same (held_behind T true a l x goes.behind)

-- what comes last is named, and needn't name that nothing comes behind it
pub last_child : (T T' : Cells) (a x l : ℕ) → T.child a ≡ 0 → T.sibling x ≡ 0 → SetsChild T T' a l → LinkedChild T T' a x l
last_child T T' a x l last fresh w = record {
  stored = w.stored;
  base = w.base;
  check = w.check;
  at = w.at;
  child = w.other;
  next = w.sibling x ∙ fresh ∙ sym last;
  other = λ q _. w.sibling q;
}

pub last_sibling : (T T' : Cells) (b x l : ℕ) → T.sibling b ≡ 0 → T.sibling x ≡ 0 → (b ≡ x → ⊥) → SetsSibling T T' b l → LinkedBehind T T' b x l
last_sibling T T' b x l last fresh apart w = record {
  stored = w.stored;
  base = w.base;
  check = w.check;
  child = w.child;
  at = w.at;
  next = w.other x (λ e. apart (sym e)) ∙ fresh ∙ sym last;
  other = λ q n _. w.other q n;
}

-- another slot was taken since
pub still_last : (T T₁ : Cells) (a s : ℕ) → (Held T s → ⊥) → Takes T T₁ s a → (before : Option ℕ) → Held T a → ((b : ℕ) → before ≡ Some b → Held T b) → MatchOption before (T.child a ≡ 0) (λ b. T.sibling b ≡ 0)
    → MatchOption before (T₁.child a ≡ 0) (λ b. T₁.sibling b ≡ 0)
still_last T T₁ a s free t None held _ e = (t.other a (λ z. free (subst (Held T) z held)) held).child ∙ e
still_last T T₁ a s free t (Some b) _ held e = (t.other b (λ z. free (subst (Held T) z (held b refl))) (held b refl)).sibling ∙ e

-- a slot was taken for slot a and put into its chain
module _ (T T₁ T₂ : Cells) (a l s : ℕ) (free : Held T s → ⊥) (t : Takes T T₁ s a) where
  linked_stored : (before : Option ℕ) → MatchOption before (LinkedChild T₁ T₂ a s l) (λ b. LinkedBehind T₁ T₂ b s l) → (x : ℕ) → T₂.stored x ≡ T₁.stored x
  linked_stored None w x = w.stored x
  linked_stored (Some b) w x = w.stored x

  pub linked_check : (before : Option ℕ) → MatchOption before (LinkedChild T₁ T₂ a s l) (λ b. LinkedBehind T₁ T₂ b s l) → (x : ℕ) → T₂.check x ≡ T₁.check x
  linked_check None w x = w.check x
  linked_check (Some b) w x = w.check x

  pub stored_stays : (before : Option ℕ) → MatchOption before (LinkedChild T₁ T₂ a s l) (λ b. LinkedBehind T₁ T₂ b s l) → (x : ℕ) → Held T x → T₂.stored x ≡ T.stored x
  stored_stays before w x h = linked_stored before w x ∙ (t.other x (λ e. free (subst (Held T) e h)) h).stored

  pub still_held : (before : Option ℕ) → MatchOption before (LinkedChild T₁ T₂ a s l) (λ b. LinkedBehind T₁ T₂ b s l) → (x : ℕ) → Held T x → Held T₂ x
  still_held before w x (inl z) = inl z
  still_held before w x (inr o) = inr (o.0, linked_check before w x ∙ (t.other x (λ e. free (subst (Held T) e (inr o))) (inr o)).check ∙ o.1)

  pub held_before : (before : Option ℕ) → MatchOption before (LinkedChild T₁ T₂ a s l) (λ b. LinkedBehind T₁ T₂ b s l) → (x : ℕ) → Held T₂ x → Held T x ⊎ (x ≡ s)
  held_before before w x h = elim (cases_eq x s) [
    | inl e ↦ inr e
    | inr n ↦ inl (t.free x n (unlinked h))
  ]
    where
      unlinked : Held T₂ x → Held T₁ x
      unlinked (inl z) = inl z
      unlinked (inr o) = inr (o.0, sym (linked_check before w x) ∙ o.1)

  pub leaf_bare : (before : Option ℕ) → MatchOption before (LinkedChild T₁ T₂ a s l) (λ b. LinkedBehind T₁ T₂ b s l) → T₁.stored s ≡ AtBase 0 → T₂.stored s ≡ AtBase 0
  leaf_bare before w e = linked_stored before w s ∙ e

  pub leaf_last : (before : Option ℕ) → MatchOption before (LinkedChild T₁ T₂ a s l) (λ b. LinkedBehind T₁ T₂ b s l) → Held T a → ((b : ℕ) → before ≡ Some b → Held T b) → MatchOption before (T.child a ≡ 0) (λ b. T.sibling b ≡ 0) → T₂.sibling s ≡ 0
  leaf_last None w held _ e = w.next ∙ (t.other a (λ z. free (subst (Held T) z held)) held).child ∙ e
  leaf_last (Some b) w _ held e = w.next ∙ (t.other b (λ z. free (subst (Held T) z (held b refl))) (held b refl)).sibling ∙ e
