-- How many blocks a key makes.
use Rattle.std.proofs.Common.{◌≡◌, ◌≢◌, ◌∙◌, false, ℕ, zero, suc, ◌+◌, ◌*◌, ◌≤◌, ◌⊎◌, ◌==◌, cond, List, [], ◌∷◌, ◌++◌, length, take, drop, ap, arith, inl, inr, refl, subst, sym, Some, Result, Ok, Err}
use Rattle.std.specs.Prelude.{ℤ, IfOk, OnOk}
use Rattle.std.proofs.lemmas.Bool.{cases_eq, cond-false, ne_eqb}
use Rattle.cedar_model.specs.Edits.{edit_at}
use Rattle.cedar_model.specs.Tree.{Forest, IsKey, Tree}
use Rattle.cedar_slots.specs.declared.shortage.Shortage.{Shortage}
use Rattle.cedar_model.specs.declared.layout.Stored.TheVariants.{AtBase}
use Rattle.cedar_model.specs.Edit.KeyWalk.{Walked}
use Rattle.cedar_model.specs.Edit.NodeEdits.{IsAt}
use Rattle.cedar_model.specs.Edit.Packing.{joins, MakesIfFull, PacksKey, StaysSmall, TakesSingle}
use Rattle.cedar_model.specs.Edit.Steps.{MakesBlocks, root_of}
use Rattle.cedar_model.specs.Meaning.Marks.{mark, MovesOut}
use Rattle.cedar_model.specs.Meaning.StandsFor.{HoldsTree}
use Rattle.cedar_model.specs.Meaning.WellFormed.{cells_in, TableHolds, tree_of}
use Rattle.cedar_model.specs.Table.Cells.{Cells}
use Rattle.cedar_model.specs.Table.TableFields.{Fields, size_of}
use Rattle.cedar_model.proofs.MeaningLemmas.NumberSlots.{root_unmarked}
use Rattle.cedar_model.proofs.MeaningLemmas.TreeOf.{tree_of_is}
use Rattle.cedar_model.proofs.UpdateLemmas.Packing.{joined, number_labels, small_on}
use Rattle.cedar_edit.specs.Changes.{WalksIn}
use Rattle.std.proofs.lemmas.List.{append-nil}

-- more slots are no less
pub small_more : (m n : ℕ) (T : Fields) → m ≤ n → StaysSmall m T → StaysSmall n T
small_more m n T more (inl within) = inl (omega (arith, more, within))
small_more m n T more (inr free) = inr free

-- a step that makes a block at most, and none at the root
pub first_small : (known : ℕ) (T T' : Fields) → (known ≡ 0 → MakesBlocks 0 T T') → (n : ℕ) × (n ≤ 1) × MakesBlocks n T T' → StaysSmall (size_of T + 256 * cond (known == 0) 0 1) T'
first_small known T T' none some = elim (cases_eq known 0) [
  | inl z ↦ inl (omega (arith, (none z).active))
  | inr n ↦ inl (omega (arith, some.1, some.2.active, cond-false {A = ℕ} (known == 0) 0 1 (ne_eqb known 0 n)))
]

front_some : (n : ℕ) (key : List ℕ) → n ≤ length key → (n ≡ 0 → ⊥) → take n key ≡ [] → ⊥
front_some zero key h z e = z refl
front_some (suc n) [] h z e = omega (arith, h)
front_some (suc n) (b ∷ key) h z e = cc

front_rest : (n : ℕ) (key : List ℕ) → take n key ++ drop n key ≡ key
front_rest zero key = refl
front_rest (suc n) [] = refl
front_rest (suc n) (b ∷ key) = ap (λ k. b ∷ k) (front_rest n key)

-- where some bytes of a key lead to a node, another key has its first byte
pub known_joins : (slots : ℕ) (T : Fields) (key : List ℕ) (known front : ℕ) → known ≤ length key → Walked slots T T key (take known key) (drop known key) front → cond (known == 0) 0 1 ≤ joins (tree_of T) key
known_joins slots T key known front within k = elim (cases_eq known 0) [
  | inl z ↦ subst (λ n. cond {A = ℕ} (n == 0) 0 1 ≤ joins (tree_of T) key) (sym z) (omega arith)
  | inr n ↦
      let one : joins (root_of k.forest) key ≡ 1 = joined (size_of T) (cells_in T) k.forest key (take known key) (drop known key) front k.holds k.at (front_some known key within n) (front_rest known key) in
      let tree : joins (tree_of T) key ≡ 1 = ap (λ (t : Tree). joins t key) (tree_of_is T k.forest k.holds) ∙ one in
      omega (arith, tree, cond-false {A = ℕ} (known == 0) 0 1 (ne_eqb known 0 n))
]

-- the nodes that a key lacked were added
pub rest_walked : (slots : ℕ) (T T' : Fields) (key : List ℕ) (known front : ℕ) (r : Result ℕ Shortage) → known ≤ length key → Walked slots T T key (take known key) (drop known key) front
    → IfOk r (λ node. ((cells_in T').stored node ≡ AtBase 0) × (node ≢ 0)) → OnOk r (StaysSmall (size_of T + 256 * cond (known == 0) 0 1) T') → IfOk r (WalksIn T T' key)
rest_walked slots T T' key known front (Err e) within k leaf small = tt
rest_walked slots T T' key known front (Ok node) within k leaf small =
    let less : cond (known == 0) 0 1 ≤ joins (tree_of T) key = known_joins slots T key known front within k in
    inr (leaf.0, leaf.1, small_more (size_of T + 256 * cond (known == 0) 0 1) (size_of T + 256 * joins (tree_of T) key) T' (omega (arith, less)) small)

key_front : (key : List ℕ) → IsKey key → key ≡ [] → ⊥
key_front [] h e = h
key_front (b ∷ key) h e = cc

-- the number of a key was set
pub number_small : (slots : ℕ) (T mid T' : Fields) (key : List ℕ) (a : ℕ) (v : ℤ) → IsKey key → Walked slots T mid key key [] a → WalksIn T mid key a
    → ((f : Forest) (w : List ℕ) → TableHolds mid f → IsAt (cells_in mid) w a → TableHolds T' (edit_at w (λ _. Some v) (λ u. u) f))
    → (n : ℕ) × (n ≤ 1) × MakesBlocks n mid T' → ((cells_in mid).stored a ≡ AtBase 0 → TakesSingle mid T') → StaysSmall (size_of T + 256 * joins (tree_of T) key) T'
number_small slots T mid T' key a v is_key k (inl same) set blocks single =
    let one : joins (root_of k.forest) key ≡ 1 = joined (size_of mid) (cells_in mid) k.forest key key [] a k.holds k.at (key_front key is_key) (append-nil key) in
    let tree : joins (tree_of T) key ≡ 1 = ap (λ (x : Fields). joins (tree_of x) key) (sym same) ∙ ap (λ (t : Tree). joins t key) (tree_of_is mid k.forest k.holds) ∙ one in
    let size : size_of mid ≡ size_of T = ap size_of same in
    inl (omega (arith, tree, size, blocks.1, blocks.2.active))
number_small slots T mid T' key a v is_key k (inr new) set blocks single =
    small_on slots (size_of T + 256 * joins (tree_of T) key) blocks.0 mid T' k.forest (edit_at key (λ _. Some v) (λ u. u) k.forest) k.table k.holds (set k.forest key k.holds k.at)
    (number_labels (cells_in mid) k.forest key a (λ _. Some v) k.at new.1) blocks.1 blocks.2 (single new.0) new.2

-- where a number made way, its key begins the new one
pub moved_joins : (size : ℕ) (T : Fields) (T' : Cells) (f : Forest) (key : List ℕ) (n : ℕ) → HoldsTree size (cells_in T) f → MovesOut (cells_in T) T' (root_of f) (take n key) → joins (root_of f) key ≡ 1
moved_joins size T T' f key n h m =
    let some : take n key ≡ [] → ⊥ = λ e.
    let root : m.slot ≡ 0 = sym (subst (λ w. IsAt (cells_in T) w m.slot) e m.at).1 in
    root_unmarked size (cells_in T) f false h (ap (mark (cells_in T)) (sym root) ∙ m.own) in
    joined size (cells_in T) f key (take n key) (drop n key) m.slot h m.at some (front_rest n key)

-- a number made way, and the key was put
pub packs_after : (T mid T' : Fields) (key : List ℕ) (n : ℕ) → n ≤ 1 → MakesBlocks n T mid → tree_of mid ≡ tree_of T → MakesIfFull T mid → ((mid ≡ T) ⊎ (joins (tree_of T) key ≡ 1))
    → StaysSmall (size_of mid + 256 * joins (tree_of mid) key) T' → PacksKey T T' key
packs_after T mid T' key n few made tree (inl nothing) moved small =
    let same : joins (tree_of mid) key ≡ joins (tree_of T) key = ap (λ (t : Tree). joins t key) tree in
    inl (small_more (size_of mid + 256 * joins (tree_of mid) key) (size_of T + 256 * joins (tree_of T) key) T' (omega (arith, nothing.active, same)) small)
packs_after T mid T' key n few made tree (inr full) (inl same) small = inl (subst (λ (x : Fields). StaysSmall (size_of x + 256 * joins (tree_of x) key) T') same small)
packs_after T mid T' key n few made tree (inr full) (inr one) (inl within) =
    let same : joins (tree_of mid) key ≡ joins (tree_of T) key = ap (λ (t : Tree). joins t key) tree in
    inr (full, one, omega (arith, few, made.active, same, one, within))
packs_after T mid T' key n few made tree (inr full) (inr one) (inr free) = inl (inr free)
