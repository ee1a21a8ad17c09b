-- What is known of a key, of which a proper front keeps its number in its node's own base field, and once it was moved.
use Rattle.std.proofs.Common.{zero, suc, take, drop, get_or, ◌≡◌, ℕ, ◌<◌, ◌+◌, List, [], ◌∷◌, ◌++◌, length, sym, ◌∙◌, ap, refl, subst, inl, inr, arith, true}
use Rattle.std.specs.Prelude.{pos, is_some}
use Rattle.std.proofs.lemmas.Bool.{cases_eq}
use Rattle.std.proofs.lemmas.List.{take-append-drop}
use Rattle.cedar_tree.specs.Tree.{Forest, has_label, IsPath, number_at, Tree}
use Rattle.cedar_tree.specs.Queries.{node_at}
use Rattle.cedar_model.specs.declared.layout.Stored.TheVariants.{AtBase, OwnNumber}
use Rattle.cedar_model.specs.Table.Cells.{Cells}
use Rattle.cedar_model.specs.Edit.NodeEdits.{follow_on, IsAt}
use Rattle.cedar_model.specs.Meaning.Family.{base_in, below}
use Rattle.cedar_model.specs.Table.Layouts.{reduced_layout}
use Rattle.cedar_model.specs.Meaning.Marks.{KeepsOtherMarks, MovesOut}
use Rattle.cedar_model.specs.Meaning.StandsFor.{HoldsTree, OnPath, slot_at}
use Rattle.cedar_model.specs.Edit.Own.{HasWay, IsOwnAt, LacksNode, NoOwn}
use Rattle.cedar_model.specs.Relocation.Renaming.{OwnsNothing}
use Rattle.cedar_model.specs.Edit.Steps.{root_of}
use Rattle.cedar_model.specs.Table.TableFields.{Fields, size_of}
use Rattle.cedar_model.specs.Meaning.WellFormed.{cells_in, IsWellFormed, tree_of}
use Rattle.cedar_model.proofs.MeaningLemmas.NodeAtPath.{at_owned, at_owner, path_front}
use Rattle.cedar_model.proofs.UpdateLemmas.OnTheWay.{held_on_way}
use Rattle.cedar_model.proofs.MeaningLemmas.KeyPath.{tree_root}
use Rattle.cedar_model.proofs.MeaningLemmas.NumberSlots.{own_marked, slot_marked}
use Rattle.cedar_model.proofs.RelocationLemmas.Movable.{node_at_end}
use Rattle.cedar_model.proofs.EditLemmas.OwnNumber.{own_reduced, unbased_alone}
use Rattle.cedar_model.proofs.EditLemmas.NumberMovesOut.{leaf_alone}
use Rattle.cedar_model.proofs.UpdateLemmas.FreeWay.{next_byte, next_bytes, own_no_root}

-- where no number is kept in a base field, none is in the way
pub default_way : (T : Fields) → (T.layout ≡ reduced_layout → ⊥) → (s : ℕ) (key : List ℕ) → HasWay (cells_in T) s key
default_way T other s [] = tt
default_way T other s (l ∷ rest) = ((λ v e. other (own_reduced T.layout _ v e)), λ o. default_way T other (below (cells_in T) s l) rest)

path_drop : (key : List ℕ) (n : ℕ) → IsPath key → IsPath (drop n key)
path_drop key zero h = h
path_drop [] (suc n) h = h
path_drop (l ∷ rest) (suc n) h = path_drop rest n h.2

-- a node that owns a slot does not keep its number in its own base field
owner_not_own : (size : ℕ) (T : Cells) (f : Forest) (p : List ℕ) (x : ℕ) → HoldsTree size T f → OnPath T p → T.check x ≡ pos (slot_at T p) → NoOwn T (slot_at T p)
owner_not_own size T f p x h on o v own = elim (cases_eq (slot_at T p) 0) [
  | inl z ↦ let e : AtBase 0 ≡ OwnNumber v = sym h.stands.0.based ∙ ap T.stored (sym z) ∙ own in cc
  | inr n ↦ let k = node_at_end size T f (slot_at T p) p h on refl n in unbased_alone size T (slot_at T p) k.head k.labels n (ap base_in own) k.family x o
]

-- the way along a path to a node that owns a slot and has no labels
way_to : (size : ℕ) (T : Cells) (f : Forest) (w q rest : List ℕ) (l x : ℕ) → HoldsTree size T f → OnPath T (follow_on w q) → T.check x ≡ pos (slot_at T (follow_on w q)) → (T.check (below T (slot_at T (follow_on w q)) l) ≡ pos (slot_at T (follow_on w q)) → ⊥)
    → HasWay T (slot_at T q) (w ++ l ∷ rest)
way_to size T f [] q rest l x h on o n = (owner_not_own size T f q x h on o, λ e. absurd (n e))
way_to size T f (m ∷ w) q rest l x h on o n =
    let step = path_front T w (m ∷ q) on in
    (owner_not_own size T f q (slot_at T (m ∷ q)) h step.2 step.1, λ _. way_to size T f w (m ∷ q) rest l x h on o n)

-- the label after a front of a path belongs to the front's node
pub goes_on : (T : Cells) (w q rest : List ℕ) (l : ℕ) → OnPath T (follow_on (w ++ l ∷ rest) q) → T.check (below T (slot_at T (follow_on w q)) l) ≡ pos (slot_at T (follow_on w q))
goes_on T [] q rest l on = (path_front T rest (l ∷ q) on).1
goes_on T (m ∷ w) q rest l on = goes_on T w (m ∷ q) rest l on

module _ (slots : ℕ) (T : Fields) (w : IsWellFormed slots T) (key : List ℕ) (n : ℕ) (less : n < length key) (own : IsOwnAt (cells_in T) (take n key)) where
  abbrev l : ℕ
  l = get_or key n 0

  abbrev rest : List ℕ
  rest = drop (n + 1) key

  abbrev f : Forest
  f = (tree_of T).children

  split : key ≡ take n key ++ l ∷ rest
  split = sym (take-append-drop n key) ∙ ap (λ r. take n key ++ r) (next_byte (cells_in T) key n 0 less)

  alone : OwnsNothing (cells_in T) own.0
  alone = leaf_alone (size_of T) (cells_in T) f (take n key) own.0 w.stands own.1 (own_no_root slots T own.0 own.2 w own.3) (ap base_in own.3)

  childless : (m : ℕ) → has_label (node_at (root_of f) (take n key)).children m ≡ true → ⊥
  childless m h = alone _ (at_owner (size_of T) (cells_in T) f (take n key) own.0 w.stands own.1 m h)

  pub not_held : is_some (number_at (tree_of T) key) ≡ true → ⊥
  not_held h =
      let here : is_some (number_at (root_of f) (take n key ++ l ∷ rest)) ≡ true = ap is_some (ap (number_at (root_of f)) (sym split) ∙ ap (λ (t : Tree). number_at t key) (sym (tree_root slots T w))) ∙ h in
      childless l (held_on_way (root_of f) (take n key) l rest here)

  pub not_one : length key ≡ 1 → ⊥
  not_one e =
      let first : n ≡ 0 = omega (arith, less, e) in
      let at_root : IsAt (cells_in T) [] own.0 = subst (λ m. IsAt (cells_in T) (take m key) own.0) first own.1 in
      own_no_root slots T own.0 own.2 w own.3 (sym at_root.1)

  -- once the number was moved into a slot
  module _ (T' : Fields) (w' : IsWellFormed slots T') (tree : tree_of T' ≡ tree_of T) (at : IsAt (cells_in T') (take n key) own.0) (moved : (cells_in T').check (below (cells_in T') own.0 0) ≡ pos own.0) (bytes : IsPath key) where
    no_label : (cells_in T').check (below (cells_in T') own.0 l) ≡ pos own.0 → ⊥
    no_label o =
        let some : 0 < l = (next_bytes (cells_in T) key n 0 less (path_drop key n bytes)).0 in
        childless l (ap (λ (t : Tree). has_label (node_at (root_of t.children) (take n key)).children l) (sym tree) ∙ at_owned (size_of T') (cells_in T') (tree_of T').children (take n key) own.0 w'.stands at l some o)

    pub has_way : HasWay (cells_in T') 0 key
    has_way =
        subst (HasWay (cells_in T') 0) (sym split)
        (way_to (size_of T') (cells_in T') (tree_of T').children (take n key) [] rest l (below (cells_in T') own.0 0) w'.stands at.0 (moved ∙ ap pos (sym at.1))
        (λ o. no_label (ap (λ s. (cells_in T').check (below (cells_in T') s l)) (sym at.1) ∙ o ∙ ap pos at.1)))

    pub lacks_node : LacksNode (cells_in T') key
    lacks_node s on =
        let along : OnPath (cells_in T') (follow_on (take n key ++ l ∷ rest) []) = subst (λ q. OnPath (cells_in T') (follow_on q [])) split on.0 in
        let o = goes_on (cells_in T') (take n key) [] rest l along in
        no_label (ap (λ x. (cells_in T').check (below (cells_in T') x l)) (sym at.1) ∙ o ∙ ap pos at.1)

    pub moves_out : KeepsOtherMarks (cells_in T) (cells_in T') own.0 → MovesOut (cells_in T) (cells_in T') (root_of f) (take n key)
    moves_out others = record {
      slot = own.0;
      at = own.1;
      own = own_marked (cells_in T) own.0 own.2 (λ o. alone _ o) own.3;
      stays = at;
      moved = slot_marked (cells_in T') own.0 moved;
      others = others;
      childless = childless;
    }
