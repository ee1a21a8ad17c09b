-- A number that was moved out of the way and back: all numbers are kept as they were.
use Rattle.std.proofs.Common.{◌≡◌, ℕ, List, [], sym, ◌∙◌, ap, refl, subst, inl, inr, true, false, Some}
use Rattle.std.specs.Prelude.{pos}
use Rattle.std.proofs.lemmas.Bool.{cases_eq}
use Rattle.cedar_tree.specs.Tree.{Forest, none, child, has_label, Tree}
use Rattle.cedar_tree.specs.Queries.{node_at}
use Rattle.cedar_model.specs.Table.Cells.{Cells}
use Rattle.cedar_model.specs.Edit.NodeEdits.{follow_on, IsAt}
use Rattle.cedar_model.specs.Meaning.Family.{Links, number_of}
use Rattle.cedar_model.specs.Meaning.Marks.{KeepsMarks, KeepsOtherMarks, mark, MovesOut}
use Rattle.cedar_model.specs.Meaning.StandsFor.{HoldsTree, labels, OnPath, slot_at}
use Rattle.cedar_model.specs.Meaning.Reading.{first_in}
use Rattle.cedar_model.specs.Edit.Steps.{root_of}
use Rattle.cedar_model.proofs.MeaningLemmas.NodeAtPath.{at_node}
use Rattle.cedar_model.proofs.MeaningLemmas.SearchStep.{has_among}
use Rattle.cedar_model.proofs.MeaningLemmas.Paths.{one_path}
use Rattle.cedar_model.proofs.MeaningLemmas.OneTree.{node_reads}

no_labels : (f : Forest) → ((l : ℕ) → has_label f l ≡ true → ⊥) → labels f ≡ []
no_labels none n = refl
no_labels (child l m u rest) n = absurd (n l (has_among (child l m u rest) l (inl refl)))

-- a node without children has no first label
pub childless_first : (size : ℕ) (T : Cells) (f : Forest) (u : List ℕ) (s : ℕ) → HoldsTree size T f → IsAt T u s → (s ≡ 0 → ⊥) → ((l : ℕ) → has_label (node_at (root_of f) u).children l ≡ true → ⊥) → first_in T s ≡ 0
childless_first size T f u s h at z n =
    let st = at_node size T f u s h at in
    let ls : List ℕ = labels (node_at (root_of f) u).children in
    let reads = node_reads size T s (number_of st.head) ls z (record { head = st.head; number = refl; family = st.family }) in
    let bare : ls ≡ [] = no_labels (node_at (root_of f) u).children n in
    let ends : Links T s (first_in T s) [] = subst (λ xs. Links T s (first_in T s) xs) bare reads.links in
    ends

module _ (T T₁ T₂ T₃ : Cells) (t : Tree) (u : List ℕ) (root : (c : ℕ) → T.check 0 ≡ pos c → ⊥) (root₂ : (c : ℕ) → T₂.check 0 ≡ pos c → ⊥) (k : MovesOut T T₁ t u) (keep : KeepsMarks T₁ T₂)
    (here : (s : ℕ) → IsAt T₂ u s → mark T₂ s ≡ Some true → IsAt T₃ u s × (mark T₃ s ≡ Some false)) (others : (s : ℕ) → IsAt T₂ u s → KeepsOtherMarks T₂ T₃ s) where
  pub moved_back : KeepsMarks T T₃
  moved_back w s m on e =
      let mid = keep u k.slot true k.stays k.moved in
      elim (cases_eq s k.slot) [
        | inl is ↦
            let same : follow_on w [] ≡ follow_on u [] = one_path T root (follow_on w []) (follow_on u []) on.0 k.at.0 (on.1 ∙ is ∙ sym k.at.1) in
            let back = here mid.0 mid.1 mid.2 in
            let was : Some m ≡ Some false = sym e ∙ ap (mark T) is ∙ k.own in
            (mid.0, subst (λ p. OnPath T₃ p × (slot_at T₃ p ≡ mid.0)) (sym same) back.0, back.1 ∙ sym was)
        | inr other ↦
            let first = k.others w s m on other e in
            let second = keep w first.0 m first.1 first.2 in
            let apart : second.0 ≡ mid.0 → ⊥ = λ z.
            let same : follow_on w [] ≡ follow_on u [] = one_path T₂ root₂ (follow_on w []) (follow_on u []) second.1.0 mid.1.0 (second.1.1 ∙ z ∙ sym mid.1.1) in
            other (sym on.1 ∙ ap (slot_at T) same ∙ k.at.1) in
            others mid.0 mid.1 w second.0 m second.1 apart second.2
      ]
