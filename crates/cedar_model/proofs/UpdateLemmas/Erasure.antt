-- A key's number taken away with all that is left bare.
use Rattle.std.proofs.Common.{◌≡◌, ℕ, ◌+◌, ◌<◌, List, [], ◌∷◌, length, sym, ◌∙◌, ap, refl, subst, arith, Option, None, Some, true, false, cond, Bool}
use Rattle.std.proofs.lemmas.Bool.{false≢true}
use Rattle.std.specs.Prelude.{ℤ, pos, negsuc, is_some}
use lib.Bits.{xor_zero_r}
use Rattle.cedar_tree.specs.Tree.{cut, Forest, is_bare, IsAscending, number_at, Tree}
use Rattle.cedar_tree.specs.Queries.{node_at, walk}
use Rattle.cedar_tree.specs.Edits.{edit_at, HasPath, without_number}
use Rattle.cedar_tree.proofs.EntryLemmas.Counts.{length-walk-cut}
use Rattle.cedar_tree.proofs.CutLemmas.{ascending-without_number, node_at-without_number}
use Rattle.cedar_tree.proofs.EntryLemmas.Steps.{cut-without_number, cut_stops_at_end}
use Rattle.cedar_tree.proofs.OrderLemmas.{ascending-cut, number_of_node}
use Rattle.cedar_tree.proofs.TreeLemmas.{all-cut, cut_not_held, sound-cut}
use Rattle.cedar_model.specs.Table.Cells.{Cells}
use Rattle.cedar_model.specs.Meaning.Family.{Among, base_of, below, Family, Head, InRange, own, owned_slots, plain, top, valued}
use Rattle.cedar_model.specs.Meaning.StandsFor.{HoldsTree, labels}
use Rattle.cedar_model.specs.Edit.NodeEdits.{DropsNumber, IsAt, IsNodeOf}
use Rattle.cedar_slots.specs.Places.{IsTable}
use Rattle.cedar_slots.specs.Slots.{check_at}
use Rattle.cedar_model.specs.Edit.Steps.{root_of, tree_after_trim}
use Rattle.cedar_model.specs.Table.TableFields.{Fields, size_of}
use Rattle.cedar_model.specs.Meaning.WellFormed.{cells_in, is_value, IsWellFormed, tree_of}
use Rattle.cedar_model.proofs.EditLemmas.AtPath.{not_own_owner, paths_touched}
use Rattle.cedar_model.proofs.MeaningLemmas.NodeAtPath.{at_node, at_path}
use Rattle.cedar_model.proofs.CellsLemmas.HeldSlots.{active_is}
use Rattle.cedar_model.proofs.UpdateLemmas.TrimUpwards.{root_path}
use Rattle.cedar_model.proofs.MeaningLemmas.KeyPath.{tree_root}
use Rattle.cedar_model.proofs.MeaningLemmas.ExclusiveOr.{xor_back}
use Rattle.cedar_model.proofs.MeaningLemmas.TreeOf.{is_well_formed, tree_of_is}
use Rattle.cedar_model.proofs.MeaningLemmas.OneTree.{no_zero}

-- a node that owns the slot of a number has a base
pub number_based : (size : ℕ) (T : Cells) (f : Forest) (w : List ℕ) (a : ℕ) → HoldsTree size T f → IsAt T w a → T.check (below T a 0) ≡ pos a → InRange size (T.stored a)
number_based size T f w a h at o =
    let st = at_node size T f w a h at in
    by_head st.head (labels (node_at (root_of f) w).children) st.family
  where
    zero_owned : (hd : Head) (ls : List ℕ) → Family size T a hd ls → Among (owned_slots hd ls) 0
    zero_owned hd ls k = subst (Among (owned_slots hd ls)) (xor_back (base_of T a) 0) (k.only (below T a 0) o)

    by_head : (hd : Head) (ls : List ℕ) → Family size T a hd ls → InRange size (T.stored a)
    by_head plain ls k = absurd (no_zero T a _ ls k.begins (zero_owned plain ls k))
    by_head (valued v) ls k = k.based
    by_head (own v) ls k = absurd (subst (λ x. Among x 0) k.begins.1 (zero_owned (own v) ls k))
    by_head top ls k = absurd (no_zero T a _ ls k.begins.2 (zero_owned top ls k))

pub lead_of : (T : Cells) (a b : ℕ) → b ≡ base_of T a → below T a 0 ≡ b
lead_of T a b e = xor_zero_r (base_of T a) ∙ sym e

-- ---- the tree
-- once a number was dropped, a trim makes it a cut
pub dropped_trimmed : (t : Tree) (l : ℕ) (path : List ℕ) → HasPath t (l ∷ path) → tree_after_trim (without_number t (l ∷ path)) (l ∷ path) ≡ cut t (l ∷ path)
dropped_trimmed t l path there =
    let u : Tree = without_number t (l ∷ path) in
    let none_there : (node_at u (l ∷ path)).number ≡ None = ap (λ (x : Tree). x.number) (node_at-without_number t l path there) in
    (elim (is_bare (node_at u (l ∷ path))) as (λ b. is_bare (node_at u (l ∷ path)) ≡ b → cond b (cut u (l ∷ path)) u ≡ cut t (l ∷ path)) [
      | true ↦ λ _. cut-without_number t l path
      | false ↦ λ e. sym (cut_stops_at_end u (l ∷ path) none_there e) ∙ cut-without_number t l path
    ]) refl

-- ---- the table before
module _ (slots : ℕ) (T : Fields) (wf : IsWellFormed slots T) (key : List ℕ) (s : ℕ) (at : IsAt (cells_in T) key s) where
  number_is : number_at (tree_of T) key ≡ (node_at (root_of (tree_of T).children) key).number
  number_is = ap (λ (t : Tree). number_at t key) (tree_root slots T wf) ∙ number_of_node (root_of (tree_of T).children) key

  pub root_unheld : s ≡ 0 → number_at (tree_of T) key ≡ None
  root_unheld z = number_is ∙ ap (λ w. (node_at (root_of (tree_of T).children) w).number) (root_path (cells_in T) key s wf.stands.root at z)

  -- what a test of the node says of the key
  pub key_told : (b : Bool) → ((f : Forest) (w : List ℕ) → HoldsTree (size_of T) (cells_in T) f → IsAt (cells_in T) w s → b ≡ is_some (node_at (root_of f) w).number) → b ≡ is_some (number_at (tree_of T) key)
  key_told b tells = tells (tree_of T).children key wf.stands at ∙ sym (ap is_some number_is)

  pub held_below_root : is_some (number_at (tree_of T) key) ≡ true → s ≡ 0 → ⊥
  held_below_root held z = false≢true (sym (ap is_some (root_unheld z)) ∙ held)

  pub key_node : IsNodeOf (size_of T) (cells_in T) T.ordered (tree_of T).children s
  key_node = record { holds = wf.stands; ascending = wf.ascending; path = key; at = at }

  pub node_numbered : is_some (number_at (tree_of T) key) ≡ true → (f : Forest) × (n : IsNodeOf (size_of T) (cells_in T) T.ordered f s) × (is_some (node_at (root_of f) n.path).number ≡ true)
  unfolding key_node
  node_numbered held = ((tree_of T).children, key_node, sym (ap is_some number_is) ∙ held)

pub unheld_same : (slots : ℕ) (T : Fields) (key : List ℕ) → IsWellFormed slots T → number_at (tree_of T) key ≡ None → tree_of T ≡ cut (tree_of T) key
unheld_same slots T key wf e = sym (cut_not_held (tree_of T) key wf.sound e)

pub unheld_not : (n : Option ℤ) → is_some n ≡ false → n ≡ None
unheld_not None e = refl
unheld_not (Some v) e = absurd (false≢true (sym e))

-- ---- the number dropped
pub dropped_at : (size : ℕ) (T T' : Cells) (f : Forest) (key : List ℕ) (s : ℕ) → HoldsTree size T f → IsAt T key s → DropsNumber size T T' s → IsAt T' key s
dropped_at size T T' f key s h at d =
    let apart : s ≡ below T s 0 → ⊥ = λ z. not_own_owner T key s h.root at (ap T.check z ∙ d.was) in
    paths_touched size T T' f key s (below T s 0) h at d.touches key s at apart

pub dropped_node : (n : ℕ) (T' : Cells) (before after : Bool) (f : Forest) (key : List ℕ) (s : ℕ) → (before ≡ true → IsAscending f) → IsAt T' key s → after ≡ before
    → HoldsTree n T' (edit_at key (λ _. None) (λ u. u) f) → IsNodeOf n T' after (edit_at key (λ _. None) (λ u. u) f) s
dropped_node n T' before after f key s ascends at same holds = record {
  holds = holds;
  ascending = λ is. ascending-without_number (root_of f) key (ascends (sym same ∙ is));
  path = key;
  at = at;
}

-- ---- the table after
counted : (t : Tree) (key : List ℕ) (entries : ℕ) → is_some (number_at t key) ≡ true → entries ≡ length (walk t) → length (walk (cut t key)) + 1 ≡ entries
counted t key entries held e =
    ap (λ b. length (walk (cut t key)) + cond b 1 0) (sym held) ∙ length-walk-cut t key ∙ sym e

pub some_entry : (slots : ℕ) (T : Fields) (key : List ℕ) → IsWellFormed slots T → is_some (number_at (tree_of T) key) ≡ true → 0 < T.entries
some_entry slots T key wf held = let e = counted (tree_of T) key T.entries held wf.entries in omega arith

-- the root's check is the one in its field
pub root_field : (slots : ℕ) (T T' : Fields) → IsTable slots T.places → IsTable slots T'.places → (cells_in T').check 0 ≡ (cells_in T).check 0 → check_at T.places.slots.nodes 0 ≡ negsuc 0 → check_at T'.places.slots.nodes 0 ≡ negsuc 0
root_field slots T T' a b e root =
    let here : 0 < size_of T = omega (arith, a.sound.shaped.blocks.some) in
    let there : 0 < size_of T' = omega (arith, b.sound.shaped.blocks.some) in
    sym (active_is T'.layout T'.places 0 there) ∙ e ∙ active_is T.layout T.places 0 here ∙ root

module _ (slots : ℕ) (T T' : Fields) (wf : IsWellFormed slots T) (l : ℕ) (path : List ℕ) (there : HasPath (root_of (tree_of T).children) (l ∷ path))
    (holds : HoldsTree (size_of T') (cells_in T') (tree_after_trim (root_of (edit_at (l ∷ path) (λ _. None) (λ u. u) (tree_of T).children)) (l ∷ path)).children) where
  cut_holds : HoldsTree (size_of T') (cells_in T') (cut (root_of (tree_of T).children) (l ∷ path)).children
  cut_holds = subst (HoldsTree (size_of T') (cells_in T')) (ap (λ (t : Tree). t.children) (dropped_trimmed (root_of (tree_of T).children) l path there)) holds

  tree_along : tree_of T' ≡ cut (tree_of T) (l ∷ path)
  tree_along = tree_of_is T' _ cut_holds ∙ ap (λ (t : Tree). cut t (l ∷ path)) (sym (tree_root slots T wf))

  formed_along : is_some (number_at (tree_of T) (l ∷ path)) ≡ true → IsTable slots T'.places → (cells_in T').check 0 ≡ (cells_in T).check 0 → T'.ordered ≡ T.ordered → T'.entries + 1 ≡ T.entries → IsWellFormed slots T'
  formed_along held table root ordered entries =
      let t : Tree = root_of (tree_of T).children in
      let is_held : is_some (number_at t (l ∷ path)) ≡ true = ap (λ (x : Tree). is_some (number_at x (l ∷ path))) (sym (tree_root slots T wf)) ∙ held in
      let walked : T.entries ≡ length (walk t) = wf.entries ∙ ap (λ (x : Tree). length (walk x)) (tree_root slots T wf) in
      let left : length (walk (cut t (l ∷ path))) + 1 ≡ T.entries = counted t (l ∷ path) T.entries is_held walked in
      is_well_formed slots T' (cut t (l ∷ path)).children table (root_field slots T T' wf.table table root wf.root_check) cut_holds
      (sound-cut t (l ∷ path) wf.sound) (all-cut (λ v. is_value v ≡ true) t (l ∷ path) wf.values)
      (λ is. ascending-cut t (l ∷ path) (wf.ascending (sym ordered ∙ is))) (omega arith)

module _ (slots : ℕ) (T T' : Fields) (wf : IsWellFormed slots T) (key : List ℕ) (s : ℕ) (at : IsAt (cells_in T) key s) (below_root : s ≡ 0 → ⊥)
    (holds : HoldsTree (size_of T') (cells_in T') (tree_after_trim (root_of (edit_at key (λ _. None) (λ u. u) (tree_of T).children)) key).children) where
  pub erased_tree : tree_of T' ≡ cut (tree_of T) key
  erased_tree = by_key key at holds
    where
      by_key : (w : List ℕ) → IsAt (cells_in T) w s → HoldsTree (size_of T') (cells_in T') (tree_after_trim (root_of (edit_at w (λ _. None) (λ u. u) (tree_of T).children)) w).children → tree_of T' ≡ cut (tree_of T) w
      by_key [] on h = absurd (below_root (sym on.1))
      by_key (l ∷ w) on h = tree_along slots T T' wf l w (at_path (size_of T) (cells_in T) (tree_of T).children (l ∷ w) s wf.stands on) h

  pub erased_formed : is_some (number_at (tree_of T) key) ≡ true → IsTable slots T'.places → (cells_in T').check 0 ≡ (cells_in T).check 0 → T'.ordered ≡ T.ordered → T'.entries + 1 ≡ T.entries → IsWellFormed slots T'
  erased_formed held table root ordered entries = by_key key at holds held
    where
      by_key : (w : List ℕ) → IsAt (cells_in T) w s → HoldsTree (size_of T') (cells_in T') (tree_after_trim (root_of (edit_at w (λ _. None) (λ u. u) (tree_of T).children)) w).children → is_some (number_at (tree_of T) w) ≡ true → IsWellFormed slots T'
      by_key [] on h is = absurd (below_root (sym on.1))
      by_key (l ∷ w) on h is = formed_along slots T T' wf l w (at_path (size_of T) (cells_in T) (tree_of T).children (l ∷ w) s wf.stands on) h is table root ordered entries
