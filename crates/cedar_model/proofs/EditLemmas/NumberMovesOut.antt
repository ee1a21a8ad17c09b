-- A number moves from its node's own base field into a slot: the tree is as it was, and so are all paths.
use Rattle.std.proofs.Common.{◌≡◌, ℕ, ◌≤◌, List, [], sym, ◌∙◌, ap, refl, subst, inl, inr, Bool, true, Some, None}
use Rattle.std.specs.Prelude.{ℤ, pos, bit_xor}
use lib.Bits.{xor_zero_r}
use Rattle.cedar_tree.specs.Tree.{Forest, IsAscending}
use Rattle.cedar_tree.specs.Queries.{node_at}
use Rattle.cedar_tree.specs.Edits.{edit_at}
use Rattle.cedar_tree.proofs.CutLemmas.{ascending-without_number}
use Rattle.cedar_model.specs.declared.layout.Stored.TheVariants.{AtBase, OwnNumber}
use Rattle.cedar_model.specs.Table.Cells.{Cells, Held, IsPlace, SameHeld}
use Rattle.cedar_model.specs.Edit.NodeEdits.{follow_on, IsAt, IsNodeOf, SetsNumber}
use Rattle.cedar_model.specs.Meaning.Family.{base_in, base_of, below, InRange}
use Rattle.cedar_model.specs.Meaning.Marks.{KeepsOtherMarks, mark}
use Rattle.cedar_model.specs.Meaning.StandsFor.{HoldsTree, labels}
use Rattle.cedar_model.specs.Edit.Own.{FieldSet}
use Rattle.cedar_model.specs.Relocation.Renaming.{OwnsNothing, Rebased, Renamed}
use Rattle.cedar_model.specs.Edit.Steps.{root_of}
use Rattle.cedar_model.proofs.EditLemmas.AtPath.{held_node, paths_touched}
use Rattle.cedar_model.proofs.MeaningLemmas.NodeAtPath.{at_node}
use Rattle.cedar_model.proofs.MeaningLemmas.SearchStep.{number_own}
use Rattle.cedar_model.proofs.RelocationLemmas.CarriedTree.{holds_renamed, path_kept, same_renamed}
use Rattle.cedar_model.proofs.MeaningLemmas.NumberSlots.{field_marks, renamed_marks, touched_marks}
use Rattle.cedar_model.proofs.EditLemmas.OwnNumber.{field_edited, field_from_base, field_paths, number_twice, same_number, unbased_alone}
use Rattle.cedar_model.proofs.MeaningLemmas.Paths.{owner_held}
use Rattle.cedar_model.proofs.UpdateLemmas.BareTrimmed.{has_owner}

-- a node whose base field says no base, or a base of 0, owns no slot
pub leaf_alone : (size : ℕ) (T : Cells) (f : Forest) (w : List ℕ) (a : ℕ) → HoldsTree size T f → IsAt T w a → (a ≡ 0 → ⊥) → base_of T a ≡ 0 → OwnsNothing T a
leaf_alone size T f w a h at z e =
    let st = at_node size T f w a h at in
    unbased_alone size T a st.head (labels (node_at (root_of f) w).children) z e st.family

pub own_base : (T : Cells) (a : ℕ) (v : ℤ) → T.stored a ≡ OwnNumber v → base_of T a ≡ 0
own_base T a v e = ap base_in e

-- a number that is taken away and set again leaves the tree as it was
pub back_again : (size : ℕ) (T : Cells) (f : Forest) (w : List ℕ) (a : ℕ) (v : ℤ) → HoldsTree size T f → IsAt T w a → (a ≡ 0 → ⊥) → (node_at (root_of f) w).number ≡ Some v
    → edit_at w (λ _. Some v) (λ u. u) (edit_at w (λ _. None) (λ u. u) f) ≡ f
back_again size T f w a v h at z e = number_twice w f None (Some v) ∙ same_number w f (Some v) (λ empty. z (sym (subst (λ x. IsAt T x a) empty at).1)) e

-- a place was found, which may have brought free slots, and the base is where it is the place of the number
module _ (size size' : ℕ) (T T₁ T₂ : Cells) (f : Forest) (w : List ℕ) (a slot : ℕ) (v : ℤ) (h : HoldsTree size T f) (at : IsAt T w a) (z : a ≡ 0 → ⊥) (own : T.stored a ≡ OwnNumber v)
    (more : size ≤ size') (same : SameHeld T T₁) (place : IsPlace size' T₁ slot) (set : Rebased T₁ T₂ a slot) where
  grown : Renamed size size' T T₁ (λ q. q)
  grown = same_renamed size size' T T₁ more same h.root (owner_held size T f h)

  path_grown : (u : List ℕ) (s : ℕ) → IsAt T u s → IsAt T₁ u s
  path_grown u s on = let k = path_kept size size' T T₁ (λ q. q) grown (follow_on u []) on.0 in (k.0, k.1 ∙ on.1)

  holds_grown : (g : Forest) → HoldsTree size T g → HoldsTree size' T₁ g
  holds_grown g k = holds_renamed size size' T T₁ (λ q. q) grown g k

  own_still : T₁.stored a ≡ OwnNumber v
  own_still = (same.other a (held_node T w a at)).stored ∙ own

  alone : OwnsNothing T₁ a
  alone = leaf_alone size' T₁ f w a (holds_grown f h) (path_grown w a at) z (own_base T₁ a v own_still)

  range : InRange size' (AtBase slot)
  range = (place.not_first, place.in_use)

  field : FieldSet T₁ T₂ a (AtBase slot)
  field = field_from_base T₁ T₂ a slot set

  pub own_dropped : (g : Forest) (u : List ℕ) → HoldsTree size T g → IsAt T u a → HoldsTree size' T₂ (edit_at u (λ _. None) (λ x. x) g)
  own_dropped g u k on = field_edited size' T₁ T₂ g u a slot (AtBase slot) None (holds_grown g k) (path_grown u a on) z alone field place.free (inr (inr range, refl))

  pub paths_on : (u : List ℕ) (s : ℕ) → IsAt T u s → IsAt T₂ u s
  paths_on u s on = field_paths size' T₁ T₂ f w a slot (AtBase slot) None (holds_grown f h) (path_grown w a at) z alone field place.free (inr (inr range, refl)) u s (path_grown u s on)

  pub own_node : (before after : Bool) → after ≡ before → (before ≡ true → IsAscending f) → IsNodeOf size' T₂ after (edit_at w (λ _. None) (λ x. x) f) a
  own_node before after e ascends = record {
    holds = own_dropped f w h at;
    ascending = λ is. ascending-without_number (root_of f) w (ascends (sym e ∙ is));
    path = w;
    at = paths_on w a at;
  }

  pub slot_is : below T₂ a 0 ≡ slot
  slot_is = ap (λ st. bit_xor (base_in st) 0) set.set ∙ xor_zero_r slot

  pub slot_free : Held T₂ (below T₂ a 0) → ⊥
  slot_free o = place.free (before (subst (Held T₂) slot_is o))
    where
      before : Held T₂ slot → Held T₁ slot
      before (inl e) = inl e
      before (inr c) = inr (c.0, sym (set.check slot) ∙ c.1)

  alone_on : OwnsNothing T₂ a
  alone_on q o = alone q (sym (set.check q) ∙ o)

  -- then the number is set in that slot
  module _ (size₃ : ℕ) (T₃ : Cells) (sets : SetsNumber size' T₂ T₃ a v)
      (tree : (g : Forest) (u : List ℕ) → HoldsTree size' T₂ g → IsAt T₂ u a → HoldsTree size₃ T₃ (edit_at u (λ _. Some v) (λ x. x) g)) where
    pub tree_back : (g : Forest) → HoldsTree size T g → HoldsTree size₃ T₃ g
    tree_back g k =
        let number : (node_at (root_of g) w).number ≡ Some v = number_own size T a (node_at (root_of g) w) (at_node size T g w a k at) v own in
        subst (HoldsTree size₃ T₃) (back_again size T g w a v k at z number) (tree (edit_at w (λ _. None) (λ x. x) g) w (own_dropped g w k at) (paths_on w a at))

    pub paths_back : (u : List ℕ) (s : ℕ) → IsAt T u s → IsAt T₃ u s
    paths_back u s on =
        let on₂ = paths_on u s on in
        paths_touched size' T₂ T₃ (edit_at w (λ _. None) (λ x. x) f) w a (below T₃ a 0) (own_dropped f w h at) (paths_on w a at) sets.touches u s on₂
        (λ e. let o = has_owner T₂ u s (λ zero. sets.touches.not_root (sym e ∙ zero)) on₂ in
        let mine : o.0 ≡ a = sets.touches.owner o.0 (ap T₂.check (sym e) ∙ o.1) in
        alone_on s (o.1 ∙ ap pos mine))

    -- and each other number is kept as it was
    pub others_back : KeepsOtherMarks T T₃ a
    others_back u s m on other e =
        let first = renamed_marks size size' T T₁ (λ q. q) f h grown u s m on e in
        let same₁ : s ≡ first.0 = sym (path_grown u s on).1 ∙ first.1.1 in
        let e₁ : mark T₁ s ≡ Some m = ap (mark T₁) same₁ ∙ first.2 in
        let on₁ = path_grown u s on in
        let second = field_marks T₁ T₂ a (AtBase slot) alone field (λ v q at₁. field_paths size' T₁ T₂ f w a slot (AtBase slot) None (holds_grown f h) (path_grown w a at) z alone field place.free (inr (inr range, refl)) v q at₁) u s m on₁ other e₁ in
        let on₂ = paths_on u s on in
        let same₂ : s ≡ second.0 = sym on₂.1 ∙ second.1.1 in
        touched_marks size' T₂ T₃ (edit_at w (λ _. None) (λ x. x) f) w a (below T₃ a 0) (own_dropped f w h at) (paths_on w a at) sets.touches (λ _ q n _ o _ _. alone_on q o) u s m on₂ other (ap (mark T₂) same₂ ∙ second.2)
