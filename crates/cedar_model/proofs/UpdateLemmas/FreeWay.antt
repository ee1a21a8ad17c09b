-- A key along whose fronts no number is in the way of a label.
use Rattle.std.proofs.Common.{suc, drop, get_or, drop-cons, ◌≡◌, ℕ, ◌<◌, ◌≤◌, ◌+◌, List, ◌∷◌, length, sym, ◌∙◌, ap, subst, arith, Some, true}
use Rattle.std.specs.Prelude.{ℤ, pos, is_some}
use Rattle.std.proofs.lemmas.List.{drop_all}
use Rattle.cedar_tree.specs.Tree.{IsPath, number_at, Tree}
use Rattle.cedar_tree.specs.Queries.{node_at}
use Rattle.cedar_model.specs.declared.layout.Stored.TheVariants.{AtBase, OwnNumber}
use Rattle.cedar_model.specs.Table.Cells.{Cells, cells_of}
use Rattle.cedar_model.specs.Edit.NodeEdits.{IsAt}
use Rattle.cedar_model.specs.Meaning.Family.{below}
use Rattle.cedar_model.specs.Table.Layouts.{LayoutKind}
use Rattle.cedar_model.specs.Meaning.Marks.{KeepsMarks}
use Rattle.cedar_model.specs.Edit.Own.{HasWay, NoOwn}
use Rattle.cedar_slots.specs.Places.{PlaceFields, SameSlots}
use Rattle.cedar_model.specs.Edit.Steps.{root_of}
use Rattle.cedar_model.specs.Table.TableFields.{Fields, size_of}
use Rattle.cedar_model.specs.Meaning.WellFormed.{cells_in, IsWellFormed, tree_of}
use Rattle.cedar_model.proofs.MeaningLemmas.NodeAtPath.{at_node, at_value}
use Rattle.cedar_model.proofs.MeaningLemmas.SearchStep.{number_own}
use Rattle.cedar_model.proofs.MeaningLemmas.KeyPath.{tree_root}
use Rattle.cedar_model.proofs.MeaningLemmas.NumberSlots.{marks_same}
use Rattle.cedar_model.proofs.UpdateLemmas.AlongKey.{cells_same}
use Rattle.cedar_tree.proofs.OrderLemmas.{number_of_node}

module _ (T : Cells) (key : List ℕ) (i a : ℕ) where
  pub next_byte : i < length key → drop i key ≡ get_or key i 0 ∷ drop (i + 1) key
  next_byte h =
      let next : suc i ≡ i + 1 = omega arith in
      drop-cons key i 0 h ∙ ap (λ n. get_or key i 0 ∷ drop n key) next

  pub next_bytes : i < length key → IsPath (drop i key) → (0 < get_or key i 0) × (get_or key i 0 < 256) × IsPath (drop (i + 1) key)
  next_bytes h b = subst IsPath (next_byte h) b

  -- the way goes on where it does behind the next byte
  pub way_behind : i < length key → NoOwn T a → (T.check (below T a (get_or key i 0)) ≡ pos a → HasWay T (below T a (get_or key i 0)) (drop (i + 1) key)) → HasWay T a (drop i key)
  way_behind h none_own next = subst (HasWay T a) (sym (next_byte h)) (none_own, next)

  pub way_ends : length key ≤ i → HasWay T a (drop i key)
  way_ends h = subst (HasWay T a) (sym (drop_all i key h)) tt

-- ---- a node that keeps its number in its own base field

pub own_held : (slots : ℕ) (T : Fields) (key : List ℕ) (s : ℕ) (v : ℤ) → IsWellFormed slots T → IsAt (cells_in T) key s → (cells_in T).stored s ≡ OwnNumber v → number_at (tree_of T) key ≡ Some v
own_held slots T key s v w at own =
    ap (λ (t : Tree). number_at t key) (tree_root slots T w)
    ∙ number_of_node (root_of (tree_of T).children) key
    ∙ number_own (size_of T) (cells_in T) s (node_at (root_of (tree_of T).children) key) (at_node (size_of T) (cells_in T) (tree_of T).children key s w.stands at) v own

pub own_no_root : (slots : ℕ) (T : Fields) (s : ℕ) (v : ℤ) → IsWellFormed slots T → (cells_in T).stored s ≡ OwnNumber v → s ≡ 0 → ⊥
own_no_root slots T s v w own z = let e : AtBase 0 ≡ OwnNumber v = sym w.stands.stands.0.based ∙ ap (cells_in T).stored (sym z) ∙ own in cc

-- a path leads to one slot
pub at_same : (T : Cells) (w : List ℕ) (a b : ℕ) → IsAt T w a → IsAt T w b → a ≡ b
at_same T w a b x y = sym x.1 ∙ y.1

-- the same slots, the same marks
pub slots_marks : (layout : LayoutKind) (a b : PlaceFields) → SameSlots a b → KeepsMarks (cells_of layout a) (cells_of layout b)
slots_marks layout a b same = subst (KeepsMarks (cells_of layout a)) (sym (cells_same layout a b same)) (marks_same (cells_of layout a))

-- a key whose node owns the slot of a number is held
pub slot_held : (slots : ℕ) (T : Fields) (w : IsWellFormed slots T) (key : List ℕ) (s : ℕ) → IsAt (cells_in T) key s → (cells_in T).check (below (cells_in T) s 0) ≡ pos s → is_some (number_at (tree_of T) key) ≡ true
slot_held slots T w key s at o =
    ap is_some (ap (λ (t : Tree). number_at t key) (tree_root slots T w) ∙ number_of_node (root_of (tree_of T).children) key ∙ at_value (size_of T) (cells_in T) (tree_of T).children key s w.stands at o)
