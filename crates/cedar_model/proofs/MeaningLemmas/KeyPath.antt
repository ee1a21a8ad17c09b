-- The path of a key, label by label.
use Rattle.std.proofs.Common.{◌≡◌, ◌⊎◌, ℕ, ◌+◌, ◌<◌, ◌≤◌, List, [], ◌∷◌, ◌++◌, length, get_or, take, drop, add-one, sym, ◌∙◌, ap, refl, subst, inl, inr, arith, None, false}
use Rattle.std.specs.Prelude.{◌%◌, pos}
use Rattle.std.proofs.Math.Seq.{take-suc}
use Rattle.std.proofs.lemmas.List.{take_all, take-append-drop}
use Rattle.cedar_tree.specs.Tree.{empty_tree, Forest, has_label, number_at, Tree}
use Rattle.cedar_tree.specs.Queries.{node_at}
use Rattle.cedar_tree.proofs.FrontFromLemmas.{nodes_gone}
use Rattle.cedar_model.specs.Table.Cells.{Cells}
use Rattle.cedar_model.specs.Meaning.Family.{base_of, below}
use Rattle.cedar_model.specs.Meaning.StandsFor.{HoldsTree, labels}
use Rattle.cedar_model.specs.Edit.NodeEdits.{IsAt}
use Rattle.cedar_model.specs.Edit.Steps.{root_of}
use Rattle.cedar_model.specs.Table.TableFields.{Fields}
use Rattle.cedar_model.specs.Meaning.WellFormed.{IsWellFormed, tree_of}
use Rattle.cedar_model.proofs.MeaningLemmas.NodeAtPath.{at_child, at_lacks, at_node}
use Rattle.cedar_model.proofs.MeaningLemmas.SearchStep.{no_label_zero, step_off}
use Rattle.cedar_model.proofs.RelocationLemmas.Repointed.{base_within}
use Rattle.cedar_model.proofs.MeaningLemmas.ExclusiveOr.{xor_within}
use Rattle.cedar_model.proofs.MeaningLemmas.TreeOf.{tree_of_is}
use Rattle.cedar_tree.proofs.OrderLemmas.{number_at-append}

-- where a label of the key leads to no child, the key has no number
off_path : (t : Tree) (key : List ℕ) (n : ℕ) → n < length key → has_label (node_at t (take n key)).children (get_or key n 0) ≡ false → number_at t key ≡ None
off_path t key n h none_there =
    ap (number_at t) (sym (take-append-drop n key)) ∙ number_at-append t (take n key) (drop n key) ∙ step_off (node_at t (take n key)) key n (get_or key n 0) h refl none_there

module _ (size : ℕ) (T : Cells) (f : Forest) (w : List ℕ) (a : ℕ) (h : HoldsTree size T f) (at : IsAt T w a) where
  pub base_inside : 0 < size → base_of T a < size
  base_inside some = let st = at_node size T f w a h at in base_within size T a st.head (labels (node_at (root_of f) w).children) some st.family

  -- the slots of a node's labels are in use
  pub slot_within : (l : ℕ) → 0 < size → size % 256 ≡ 0 → l < 256 → below T a l < size
  slot_within l some whole small = xor_within size (base_of T a) l whole (base_inside some) small

-- n labels of a key lead to slot a
module _ (size : ℕ) (T : Cells) (f : Forest) (key : List ℕ) (n a : ℕ) (h : HoldsTree size T f) (at : IsAt T (take n key) a) where
  pub key_leaves : n < length key → (get_or key n 0 ≡ 0) ⊎ (T.check (below T a (get_or key n 0)) ≡ pos a → ⊥) → number_at (root_of f) key ≡ None
  key_leaves less (inl z) =
      let st = at_node size T f (take n key) a h at in
      off_path (root_of f) key n less (subst (λ l. has_label (node_at (root_of f) (take n key)).children l ≡ false) (sym z) (no_label_zero size T a (node_at (root_of f) (take n key)) st))
  key_leaves less (inr o) = off_path (root_of f) key n less (at_lacks size T f (take n key) a h at (get_or key n 0) o)

  -- and neither has any longer path a node
  pub key_gone : n < length key → (get_or key n 0 ≡ 0) ⊎ (T.check (below T a (get_or key n 0)) ≡ pos a → ⊥) → node_at (root_of f) key ≡ empty_tree
  key_gone less (inl z) =
      let st = at_node size T f (take n key) a h at in
      nodes_gone (root_of f) key n less (subst (λ l. has_label (node_at (root_of f) (take n key)).children l ≡ false) (sym z) (no_label_zero size T a (node_at (root_of f) (take n key)) st))
  key_gone less (inr o) = nodes_gone (root_of f) key n less (at_lacks size T f (take n key) a h at (get_or key n 0) o)

  pub key_goes_on : n < length key → (get_or key n 0 ≡ 0 → ⊥) → (s : ℕ) → s ≡ below T a (get_or key n 0) → T.check s ≡ pos a → IsAt T (take (n + 1) key) s
  key_goes_on less p s e o =
      let longer : take (n + 1) key ≡ take n key ++ get_or key n 0 ∷ [] = ap (λ m. take m key) (add-one n) ∙ take-suc key n 0 less in
      let there = at_child size T f (take n key) a h at (get_or key n 0) (omega (arith, p)) (ap T.check (sym e) ∙ o) in
      subst (λ x. IsAt T (take (n + 1) key) x) (sym e) (subst (λ v. IsAt T v (below T a (get_or key n 0))) (sym longer) there)

  pub key_ends : length key ≤ n → IsAt T key a
  key_ends past = subst (λ v. IsAt T v a) (take_all n key past) at

-- the tree of a well-formed table has a root without number
pub tree_root : (slots : ℕ) (T : Fields) → IsWellFormed slots T → tree_of T ≡ root_of (tree_of T).children
tree_root slots T w = tree_of_is T (tree_of T).children w.stands
