-- A label removed, a number set and one dropped, at the node at the end of a path.
use Rattle.std.proofs.Common.{◌≡◌, ℕ, List, [], ◌∷◌, sym, ◌∙◌, ap, subst, Some, None}
use Rattle.std.specs.Prelude.{ℤ, pos}
use Rattle.cedar_tree.specs.Tree.{Forest, without}
use Rattle.cedar_tree.specs.Edits.{edit_at}
use Rattle.cedar_model.specs.Table.Cells.{Cells, Held}
use Rattle.cedar_model.specs.Meaning.StandsFor.{HoldsTree, OnPath, slot_at}
use Rattle.cedar_model.specs.Edit.NodeEdits.{DropsNumber, follow_on, IsAt, Removes, SetsNumber, Touches}
use Rattle.cedar_model.proofs.EditLemmas.ChangeAtPath.{longer_path}
use Rattle.cedar_model.proofs.EditLemmas.NodeChange.{path_stays}
use Rattle.cedar_model.proofs.EditLemmas.Number.{number_dropped, number_set}
use Rattle.cedar_model.proofs.MeaningLemmas.Paths.{one_path}
use Rattle.cedar_model.proofs.EditLemmas.LeafAtPlace.{ends, held_on}
use Rattle.cedar_model.proofs.EditLemmas.LeafRemoved.{leaf_removed, leaf_removed_at_root}
use Rattle.cedar_model.proofs.MeaningLemmas.ExclusiveOr.{pos_injective}

pub label_removed : (size : ℕ) (T T' : Cells) (f : Forest) (w : List ℕ) (a l : ℕ) → HoldsTree size T f → IsAt T w a → Removes size T T' a l → HoldsTree size T' (edit_at w (λ n. n) (λ u. without u l) f)
label_removed size T T' f [] a l h at k = leaf_removed_at_root size T T' f l h (subst (λ s. Removes size T T' s l) (sym at.1) k)
label_removed size T T' f (j ∷ v) a l h at k =
    let e = ends j v in
    leaf_removed size T T' f e.0 e.1 l h (subst (OnPath T) e.2 at.0) (subst (λ s. Removes size T T' s l) (sym at.1 ∙ ap (slot_at T) e.2) k) j v e.2

-- only a node below the root has a number
pub number_set_at : (size : ℕ) (T T' : Cells) (f : Forest) (w : List ℕ) (a : ℕ) (v : ℤ) → (a ≡ 0 → ⊥) → HoldsTree size T f → IsAt T w a → SetsNumber size T T' a v → HoldsTree size T' (edit_at w (λ _. Some v) (λ u. u) f)
number_set_at size T T' f [] a v z h at k = absurd (z (sym at.1))
number_set_at size T T' f (j ∷ way) a v z h at k =
    let e = ends j way in
    number_set size T T' f e.0 e.1 v h (subst (OnPath T) e.2 at.0) (subst (λ s. SetsNumber size T T' s v) (sym at.1 ∙ ap (slot_at T) e.2) k) j way e.2

pub number_dropped_at : (size : ℕ) (T T' : Cells) (f : Forest) (w : List ℕ) (a : ℕ) → (a ≡ 0 → ⊥) → HoldsTree size T f → IsAt T w a → DropsNumber size T T' a → HoldsTree size T' (edit_at w (λ _. None) (λ u. u) f)
number_dropped_at size T T' f [] a z h at k = absurd (z (sym at.1))
number_dropped_at size T T' f (j ∷ way) a z h at k =
    let e = ends j way in
    number_dropped size T T' f e.0 e.1 h (subst (OnPath T) e.2 at.0) (subst (λ s. DropsNumber size T T' s) (sym at.1 ∙ ap (slot_at T) e.2) k) j way e.2

-- a node is held, and isn't its own owner
pub held_node : (T : Cells) (w : List ℕ) (a : ℕ) → IsAt T w a → Held T a
held_node T w a at = subst (Held T) at.1 (held_on T (follow_on w []) at.0)

pub not_own_owner : (T : Cells) (w : List ℕ) (a : ℕ) → ((c : ℕ) → T.check 0 ≡ pos c → ⊥) → IsAt T w a → T.check a ≡ pos a → ⊥
not_own_owner T w a root at = subst (λ x. T.check x ≡ pos x → ⊥) at.1 (by_path (follow_on w []) at.0)
  where
    by_path : (p : List ℕ) → OnPath T p → T.check (slot_at T p) ≡ pos (slot_at T p) → ⊥
    by_path [] g e = root 0 e
    by_path (m ∷ v) g e = longer_path [] v m (one_path T root (m ∷ v) v g g.2 (pos_injective _ _ (sym e ∙ g.1)))

-- a change of a's own slots keeps each path but that to the slot which was taken, given up or overwritten
pub paths_touched : (size : ℕ) (T T' : Cells) (f : Forest) (w : List ℕ) (a x : ℕ) → HoldsTree size T f → IsAt T w a → Touches T T' a x → (v : List ℕ) (s : ℕ) → IsAt T v s → (s ≡ x → ⊥) → IsAt T' v s
paths_touched size T T' f w a x h at k v s on n =
    let there = path_stays size T T' f (follow_on w []) x h at.0 (subst (λ y. Touches T T' y x) (sym at.1) k) (follow_on v []) on.0 (λ e. n (sym on.1 ∙ e)) in
    (there.0, there.1 ∙ on.1)
