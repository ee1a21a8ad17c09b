-- A number moves from its slot back into its node's own base field.
use Rattle.std.proofs.Common.{◌≡◌, ℕ, ◌<◌, List, [], ◌∷◌, sym, ◌∙◌, ap, refl, subst, inl, inr, arith, true, false, None, Some}
use Rattle.std.specs.Prelude.{ℤ, bit_xor, IfSome, pos}
use Rattle.cedar_tree.specs.Queries.{node_at}
use Rattle.cedar_tree.specs.Edits.{edit_at}
use Rattle.cedar_tree.proofs.TreeLemmas.{all-number_at}
use Rattle.cedar_model.specs.declared.layout.Stored.TheVariants.{OwnNumber}
use Rattle.cedar_model.specs.Table.Cells.{Cells}
use Rattle.cedar_model.specs.Edit.NodeEdits.{DropsNumber, follow_on, IsAt}
use Rattle.cedar_model.specs.Meaning.Family.{Among, base_in, base_of, below, Head, Links, number_of, own, owned_slots, plain, top, valued}
use Rattle.cedar_model.specs.Meaning.Marks.{KeepsOtherMarks, mark}
use Rattle.cedar_model.specs.Meaning.StandsFor.{HoldsTree, labels}
use Rattle.cedar_model.specs.Edit.Own.{FieldSet}
use Rattle.cedar_model.specs.Meaning.Reading.{first_in}
use Rattle.cedar_model.specs.Relocation.Renaming.{OwnsNothing}
use Rattle.cedar_model.specs.Edit.Steps.{root_of}
use Rattle.cedar_model.specs.Table.TableFields.{Fields, size_of}
use Rattle.cedar_model.specs.Meaning.WellFormed.{cells_in, is_value, IsWellFormed, tree_of}
use Rattle.cedar_model.proofs.EditLemmas.AtPath.{paths_touched}
use Rattle.cedar_model.proofs.MeaningLemmas.NodeAtPath.{at_node, at_value}
use Rattle.cedar_model.proofs.EditLemmas.NodeChange.{not_number}
use Rattle.cedar_model.proofs.UpdateLemmas.Erasure.{lead_of}
use Rattle.cedar_model.proofs.MeaningLemmas.NumberSlots.{dropped_marks, field_marks, own_marked}
use Rattle.cedar_model.proofs.EditLemmas.NumberMovesOut.{back_again}
use Rattle.cedar_model.proofs.MeaningLemmas.ExclusiveOr.{xor_back}
use Rattle.cedar_model.proofs.MeaningLemmas.OneTree.{node_reads}
use Rattle.cedar_tree.proofs.OrderLemmas.{number_of_node}

pub no_links : (T : Cells) (s c : ℕ) (ls : List ℕ) → c ≡ 0 → Links T s c ls → ls ≡ []
no_links T s c [] z k = refl
no_links T s c (l ∷ ls) z k = let same : c ≡ l = k.0 in let some : 0 < l = k.1 in absurd (omega (arith, z, same, some))

only_zero : (h : Head) (y : ℕ) → Among (owned_slots h []) y → 0 ≡ y
only_zero plain y a = absurd a
only_zero (valued v) y a = elim a [ inl e ↦ e | inr b ↦ absurd b ]
only_zero (own v) y a = absurd a
only_zero top y a = absurd a

module _ (slots : ℕ) (T : Fields) (w : IsWellFormed slots T) (key : List ℕ) (s : ℕ) (v : ℤ) (at : IsAt (cells_in T) key s) (mine : (cells_in T).check (below (cells_in T) s 0) ≡ pos s)
    (base : (cells_in T).base (below (cells_in T) s 0) ≡ v) (first : first_in (cells_in T) s ≡ 0) where
  pub below_root : s ≡ 0 → ⊥
  below_root z =
      let lead : below (cells_in T) 0 0 ≡ 0 = lead_of (cells_in T) 0 0 (sym (ap base_in w.stands.stands.0.based)) in
      w.stands.root s (ap (cells_in T).check (sym (ap (λ x. below (cells_in T) x 0) z ∙ lead)) ∙ mine)

  number_is : (node_at (root_of (tree_of T).children) key).number ≡ Some v
  number_is = at_value (size_of T) (cells_in T) (tree_of T).children key s w.stands at mine ∙ ap Some base

  pub in_range : is_value v ≡ true
  in_range =
      subst (λ n. IfSome n (λ x. is_value x ≡ true)) (number_of_node (root_of (tree_of T).children) key ∙ number_is)
      (all-number_at (λ x. is_value x ≡ true) (root_of (tree_of T).children) key refl w.values)

  -- a node that has no labels owns nothing once its number was dropped
  pub alone_dropped : (T' : Cells) → DropsNumber (size_of T) (cells_in T) T' s → OwnsNothing T' s
  alone_dropped T' d q o =
      let st = at_node (size_of T) (cells_in T) (tree_of T).children key s w.stands at in
      let ls : List ℕ = labels (node_at (root_of (tree_of T).children) key).children in
      let reads = node_reads (size_of T) (cells_in T) s (number_of st.head) ls below_root (record { head = st.head; number = refl; family = st.family }) in
      let bare : ls ≡ [] = no_links (cells_in T) s (first_in (cells_in T) s) ls first reads.links in
      let was : (cells_in T).check q ≡ pos s = elim (d.touches.only q o) [ inl mine ↦ mine | inr x ↦ absurd (d.gone (ap T'.check (sym x) ∙ o)) ] in
      let zero : 0 ≡ below (cells_in T) s q = only_zero st.head _ (subst (λ xs. Among (owned_slots st.head xs) (below (cells_in T) s q)) bare (st.family.only q was)) in
      let is : q ≡ below (cells_in T) s 0 = sym (xor_back (base_of (cells_in T) s) q) ∙ ap (below (cells_in T) s) (sym zero) in
      d.gone (ap T'.check (sym is) ∙ o)

  pub number_back : (n : ℕ) (T' : Cells) → HoldsTree n T' (edit_at key (λ _. Some v) (λ u. u) (edit_at key (λ _. None) (λ u. u) (tree_of T).children)) → HoldsTree n T' (tree_of T).children
  number_back n T' h = subst (HoldsTree n T') (back_again (size_of T) (cells_in T) (tree_of T).children key s v w.stands at below_root number_is) h

  -- where the number is kept afterwards, and each other number as it was
  pub marked_in : (T₁ T₂ : Cells) → DropsNumber (size_of T) (cells_in T) T₁ s → FieldSet T₁ T₂ s (OwnNumber v) → ((c : ℕ) → T₂.check 0 ≡ pos c → ⊥) → mark T₂ s ≡ Some false
  marked_in T₁ T₂ d k root =
      let lead : below T₂ s 0 ≡ 0 = ap (λ st. bit_xor (base_in st) 0) k.set in
      own_marked T₂ s v (λ o. root s (ap T₂.check (sym lead) ∙ o)) k.set

  pub others_in : (T₁ T₂ : Cells) → DropsNumber (size_of T) (cells_in T) T₁ s → FieldSet T₁ T₂ s (OwnNumber v) → ((u : List ℕ) (q : ℕ) → IsAt T₁ u q → IsAt T₂ u q) → KeepsOtherMarks (cells_in T) T₂ s
  others_in T₁ T₂ d k paths u q m on other e =
      let first = dropped_marks (size_of T) (cells_in T) T₁ (tree_of T).children key s w.stands at d u q m on other e in
      let stays : IsAt T₁ u q = paths_touched (size_of T) (cells_in T) T₁ (tree_of T).children key s (below (cells_in T) s 0) w.stands at d.touches u q on (λ z. not_number (cells_in T) w.stands.root (follow_on u []) on.0 s mine (sym z ∙ sym on.1)) in
      let same : q ≡ first.0 = sym stays.1 ∙ first.1.1 in
      field_marks T₁ T₂ s (OwnNumber v) (alone_dropped T₁ d) k paths u q m stays other (ap (mark T₁) same ∙ first.2)
