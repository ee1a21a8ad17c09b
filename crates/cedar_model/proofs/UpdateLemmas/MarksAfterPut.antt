-- Where numbers are kept once one of them was put.
use Rattle.std.proofs.Common.{◌≡◌, ℕ, List, [], sym, ◌∙◌, ap, refl, subst, inl, inr, Bool, true, false, Option, Some, None}
use Rattle.std.specs.Prelude.{bit_xor, cond, ℤ, pos}
use Rattle.std.proofs.lemmas.Bool.{cases_eq}
use Rattle.cedar_tree.specs.Tree.{Forest}
use Rattle.cedar_model.specs.declared.layout.Stored.{Stored}
use Rattle.cedar_model.specs.declared.layout.Stored.TheVariants.{AtBase, OwnNumber, Nothing}
use Rattle.cedar_model.specs.Table.Cells.{Cells}
use Rattle.cedar_model.specs.Edit.NodeEdits.{follow_on, IsAt, SetsNumber}
use Rattle.cedar_model.specs.Meaning.Family.{base_in, below}
use Rattle.cedar_model.specs.Meaning.Marks.{KeepsMarks, mark, own_mark, PutsMark}
use Rattle.cedar_model.specs.Meaning.StandsFor.{HoldsTree, slot_at}
use Rattle.cedar_model.specs.Edit.Own.{FieldSet}
use Rattle.cedar_model.specs.Relocation.Renaming.{OwnsNothing}
use Rattle.cedar_model.proofs.EditLemmas.AtPath.{held_node, not_own_owner, paths_touched}
use Rattle.cedar_model.proofs.EditLemmas.NodeChange.{not_number}
use Rattle.cedar_model.proofs.MeaningLemmas.NumberSlots.{field_marks, own_marked, slot_marked, touched_marks}
use Rattle.cedar_model.proofs.EditLemmas.OwnNumber.{same_or_not}
use Rattle.cedar_model.proofs.MeaningLemmas.Paths.{one_path}
use Rattle.cedar_model.proofs.MeaningLemmas.OneTree.{owns_no}

-- ---- the number of one node put

-- in a slot
module _ (size : ℕ) (T T' : Cells) (f : Forest) (u : List ℕ) (a : ℕ) (v : ℤ) (h : HoldsTree size T f) (at : IsAt T u a) (k : SetsNumber size T T' a v) where
  -- the slot that was taken is no node's
  no_node : (w : List ℕ) (s : ℕ) → IsAt T w s → T.check s ≡ pos a → s ≡ below T' a 0 → ⊥
  no_node w s on o z =
      let same : below T' a 0 ≡ below T a 0 = ap (λ st. bit_xor (base_in st) 0) (k.touches.place s o) in
      not_number T h.root (follow_on w []) on.0 a (ap T.check (sym (z ∙ same)) ∙ o) (sym (z ∙ same) ∙ sym on.1)

  not_its_own : a ≡ below T' a 0 → ⊥
  not_its_own z = elim (held_node T u a at) [
    | inl root ↦ k.touches.not_root (sym z ∙ root)
    | inr o ↦
        let mine : o.0 ≡ a = k.touches.owner o.0 (ap T.check (sym z) ∙ o.1) in
        not_own_owner T u a h.root at (o.1 ∙ ap pos mine)
  ]

  pub slot_put : PutsMark T T' a true
  slot_put = record {
    here = λ w on. (a, paths_touched size T T' f u a (below T' a 0) h at k.touches w a on not_its_own, slot_marked T' a k.taken);
    others = touched_marks size T T' f u a (below T' a 0) h at k.touches (λ w s m on o _ z. no_node w s on o z);
  }

-- in the node's own base field
pub own_put : (T T' : Cells) (a : ℕ) (v : ℤ) → OwnsNothing T a → FieldSet T T' a (OwnNumber v) → ((w : List ℕ) (s : ℕ) → IsAt T w s → IsAt T' w s) → PutsMark T T' a false
own_put T T' a v alone k paths = record {
  here = λ w on. (a, paths w a on, own_marked T' a v (λ o. alone _ (sym (k.check _) ∙ o)) k.set);
  others = field_marks T T' a (OwnNumber v) alone k paths;
}

-- ---- after a change that keeps marks

-- the node may have moved from slot a to slot s
pub kept_then_put : (T T₁ T₂ : Cells) (u : List ℕ) (a s : ℕ) (m : Bool) → ((c : ℕ) → T₁.check 0 ≡ pos c → ⊥) → IsAt T u a → KeepsMarks T T₁ → ((w : List ℕ) → IsAt T w a → IsAt T₁ w s) → PutsMark T₁ T₂ s m → PutsMark T T₂ a m
kept_then_put T T₁ T₂ u a s m root at keep moves k = record {
  here = λ w on. k.here w (moves w on);
  others = λ w x n on other e.
      let there = keep w x n on e in
      let apart : there.0 ≡ s → ⊥ = λ z.
      let to = moves u at in
      let same : follow_on w [] ≡ follow_on u [] = one_path T₁ root (follow_on w []) (follow_on u []) there.1.0 to.0 (there.1.1 ∙ z ∙ sym to.1) in
      other (sym on.1 ∙ ap (slot_at T) same ∙ at.1) in
      k.others w there.0 n there.1 apart there.2;
}

-- where the number is kept as it was before, all are
pub kept_if_same : (T T₁ T₂ : Cells) (a : ℕ) (m : Bool) → KeepsMarks T T₁ → PutsMark T₁ T₂ a m → ((n : Bool) → mark T₁ a ≡ Some n → n ≡ m) → KeepsMarks T T₂
kept_if_same T T₁ T₂ a m keep k same w x n on e =
    let there = keep w x n on e in
    elim (cases_eq there.0 a) [
      | inl is ↦
          let now = k.here w (subst (IsAt T₁ w) is there.1) in
          (now.0, now.1, now.2 ∙ ap Some (sym (same n (ap (mark T₁) (sym is) ∙ there.2))))
      | inr other ↦ k.others w there.0 n there.1 other there.2
    ]

-- a number that has no slot is in its node's own base field
pub marked_own : (T : Cells) (s : ℕ) → mark T s ≡ Some false → (v : ℤ) × (T.stored s ≡ OwnNumber v)
marked_own T s e = elim (same_or_not (T.check (below T s 0)) (pos s)) [
  | inl o ↦ absurd (never (sym (slot_marked T s o) ∙ e))
  | inr n ↦ by_stored (T.stored s) (sym (ap (λ b. cond b (Some true) (own_mark (T.stored s))) (owns_no T s n)) ∙ e)
]
  where
    never : ◌≡◌ {A = Option Bool} (Some true) (Some false) → ⊥
    never i = cc

    by_stored : (st : Stored) → own_mark st ≡ Some false → (v : ℤ) × (st ≡ OwnNumber v)
    by_stored (AtBase b) i = let no : ◌≡◌ {A = Option Bool} None (Some false) = i in absurd (cc)
    by_stored (OwnNumber v) i = (v, refl)
    by_stored Nothing i = let no : ◌≡◌ {A = Option Bool} None (Some false) = i in absurd (cc)
