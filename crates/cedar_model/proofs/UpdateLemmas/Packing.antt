-- How few slots outside block 0 stay free where a slot is taken alone.
use Rattle.std.proofs.Common.{◌≡◌, ℕ, zero, suc, ◌+◌, ◌-◌, ◌<◌, ◌≤◌, ◌∙◌, sym, ap, subst, refl, inl, inr, arith, Bool, true, false, cond, ◌==◌, Option, List, [], ◌∷◌, ◌++◌, length}
use Rattle.std.specs.Prelude.{ℤ}
use Rattle.std.specs.List.{count_by, range_with_len}
use Rattle.std.proofs.lemmas.Bool.{cases_Bool, cases_eq, cond-true, cond-false}
use Rattle.cedar_tree.specs.Tree.{child, Forest, has_label, none}
use Rattle.cedar_tree.specs.Edits.{add_leaf, edit_at, HasPath, number_on, with_leaf}
use Rattle.cedar_tree.specs.Queries.{node_at}
use Rattle.cedar_slots.specs.Places.{IsTable}
use Rattle.cedar_slots.proofs.ListsLemmas.FreeCounts.{count_by-total, total, total-append, yes}
use Rattle.cedar_model.specs.Edit.NodeEdits.{IsAt}
use Rattle.cedar_model.specs.Edit.Packing.{count_held, joins, StaysSmall, TakesOne, TakesSingle}
use Rattle.cedar_model.specs.Edit.Steps.{MakesBlocks, root_of, with_child}
use Rattle.cedar_model.specs.Meaning.StandsFor.{HoldsTree, labels}
use Rattle.cedar_model.specs.Meaning.WellFormed.{cells_in, TableHolds}
use Rattle.cedar_model.specs.Table.Cells.{Cells, Held, is_held, NoPlace}
use Rattle.cedar_model.specs.Table.TableFields.{Fields, size_of}
use Rattle.cedar_model.proofs.CellsLemmas.PlacesFound.{held-is_held, is_held-true}
use Rattle.cedar_model.proofs.MeaningLemmas.FullBlocks.{full_counted}
use Rattle.cedar_model.proofs.MeaningLemmas.NodeAtPath.{at_path}
use Rattle.cedar_model.proofs.MeaningLemmas.OneTree.{one_tree}
use Rattle.cedar_model.proofs.MeaningLemmas.TreeOf.{in_use}
use Rattle.cedar_model.proofs.UpdateLemmas.BlocksMade.{made_larger}

-- ---- sums

pub total_le : (f g : ℕ → ℕ) (a n : ℕ) → ((s : ℕ) → f s ≤ g s) → total f a n ≤ total g a n
unfolding total
total_le f g a zero le = omega arith
total_le f g a (suc n) le = omega (arith, le a, total_le f g (a + 1) n le)

total_less : (f g : ℕ → ℕ) (x a n : ℕ) → ((s : ℕ) → f s ≤ g s) → f x < g x → a ≤ x → x < a + n → total f a n < total g a n
unfolding total
total_less f g x a zero le less low high = absurd (omega arith)
total_less f g x a (suc n) le less low high = elim (cases_eq a x) [
  | inl here ↦ let first : f a < g a = subst (λ s. f s < g s) (sym here) less in omega (arith, first, total_le f g (a + 1) n le)
  | inr later ↦ omega (arith, le a, total_less f g x (a + 1) n le less (omega arith) (omega arith))
]

-- ---- how many slots are held

module _ (size size' : ℕ) (T T' : Cells) (more : size ≤ size') (keeps : (x : ℕ) → Held T x → Held T' x) where
  each_kept : (s : ℕ) → yes (is_held T s) ≤ yes (is_held T' s)
  each_kept s = elim (cases_Bool (is_held T s)) [
    | inl is ↦ omega (arith, cond-true {A = ℕ} (is_held T s) 1 0 is, cond-true {A = ℕ} (is_held T' s) 1 0 (held-is_held T' s (keeps s (is_held-true T s is))))
    | inr not ↦ omega (arith, cond-false {A = ℕ} (is_held T s) 1 0 not)
  ]

  -- the slots in use are some of those afterwards
  some_of_all : total (λ s. yes (is_held T s)) 0 size ≤ total (λ s. yes (is_held T s)) 0 size'
  some_of_all =
      let longer : size' ≡ size + (size' - size) = omega arith in
      let whole : total (λ s. yes (is_held T s)) 0 size' ≡ total (λ s. yes (is_held T s)) 0 size + total (λ s. yes (is_held T s)) (0 + size) (size' - size) =
      ap (total (λ s. yes (is_held T s)) 0) longer ∙ total-append (λ s. yes (is_held T s)) 0 size (size' - size) in
      omega (arith, whole)

  pub held_kept : count_by (is_held T) (range_with_len 0 size) ≤ count_by (is_held T') (range_with_len 0 size')
  held_kept =
      let each : total (λ s. yes (is_held T s)) 0 size' ≤ total (λ s. yes (is_held T' s)) 0 size' = total_le (λ s. yes (is_held T s)) (λ s. yes (is_held T' s)) 0 size' each_kept in
      omega (arith, some_of_all, each, count_by-total (is_held T) 0 size, count_by-total (is_held T') 0 size')

  pub held_another : (x : ℕ) → x < size' → (Held T x → ⊥) → Held T' x → count_by (is_held T) (range_with_len 0 size) < count_by (is_held T') (range_with_len 0 size')
  held_another x inside free taken =
      let here : yes (is_held T x) < yes (is_held T' x) = elim (cases_Bool (is_held T x)) [
        | inl is ↦ absurd (free (is_held-true T x is))
        | inr not ↦ omega (arith, cond-false {A = ℕ} (is_held T x) 1 0 not, cond-true {A = ℕ} (is_held T' x) 1 0 (held-is_held T' x taken))
      ] in
      let each : total (λ s. yes (is_held T s)) 0 size' < total (λ s. yes (is_held T' s)) 0 size' =
      total_less (λ s. yes (is_held T s)) (λ s. yes (is_held T' s)) x 0 size' each_kept here (omega arith) (omega (arith, inside)) in
      omega (arith, some_of_all, each, count_by-total (is_held T) 0 size, count_by-total (is_held T') 0 size')

-- a held slot is in use
pub held_inside : (T : Fields) (x : ℕ) → 0 < size_of T → Held (cells_in T) x → x < size_of T
held_inside T x some (inl z) = omega (arith, some, z)
held_inside T x some (inr o) = in_use T x o.0 o.1

-- ---- the root's children stay

pub labels_below : (l : ℕ) (w : List ℕ) (N : Option ℤ → Option ℤ) (C : Forest → Forest) (f : Forest) → labels (edit_at (l ∷ w) N C f) ≡ labels f
labels_below l w N C none = refl
labels_below l w N C (child m n u rest) =
    elim (m == l) as (λ b. labels (cond b (child m (number_on w N n) (edit_at w N C u) rest) (child m n u (edit_at (l ∷ w) N C rest))) ≡ m ∷ labels rest) [
      | true ↦ refl
      | false ↦ ap (λ ls. m ∷ ls) (labels_below l w N C rest)
    ]

-- a leaf that comes below another node than the root, and a number
pub child_labels : (T : Cells) (f : Forest) (o : Bool) (w : List ℕ) (l a : ℕ) → IsAt T w a → (a ≡ 0 → ⊥) → labels (with_child (root_of f) o w l).children ≡ labels f
child_labels T f o [] l a at z = absurd (z (sym at.1))
child_labels T f o (m ∷ w) l a at z = by_test (has_label (node_at (root_of f) (m ∷ w)).children l)
  where
    by_test : (b : Bool) → labels (cond b (root_of f) (with_leaf (root_of f) o (m ∷ w) l)).children ≡ labels f
    by_test true = refl
    by_test false = labels_below m w (λ n. n) (add_leaf o l) f

pub number_labels : (T : Cells) (f : Forest) (w : List ℕ) (a : ℕ) (N : Option ℤ → Option ℤ) → IsAt T w a → (a ≡ 0 → ⊥) → labels (edit_at w N (λ u. u) f) ≡ labels f
number_labels T f [] a N at z = absurd (z (sym at.1))
number_labels T f (m ∷ w) a N at z = labels_below m w N (λ u. u) f

-- ---- a slot taken alone

pub full_held : (slots : ℕ) (T : Fields) (f : Forest) → IsTable slots T.places → TableHolds T f → NoPlace (size_of T) (cells_in T) → count_held T + 255 ≡ size_of T + length (labels f)
full_held slots T f table holds full =
    let some : size_of T ≡ 256 + (size_of T - 256) = omega (arith, table.sound.shaped.blocks.some) in
    full_counted (size_of T) (size_of T - 256) (cells_in T) f some holds full

pub small_on : (slots most n : ℕ) (T T' : Fields) (f g : Forest) → IsTable slots T.places → TableHolds T f → TableHolds T' g → labels g ≡ labels f → n ≤ 1 → MakesBlocks n T T' → TakesSingle T T' → StaysSmall most T → StaysSmall most T'
small_on slots most n T T' f g table holds holds' same few made single small = by_one single.one small
  where
    root : (h : Forest) → TableHolds T' h → length (labels h) ≡ length (labels f)
    root h k = ap (λ u. length (labels u)) (one_tree (size_of T') (cells_in T') h g k holds') ∙ ap length same

    by_one : TakesOne T T' → StaysSmall most T → StaysSmall most T'
    by_one (inl nothing) (inl within) = inl (omega (arith, nothing.active, within))
    by_one (inl nothing) (inr free) =
        let held = held_kept (size_of T) (size_of T') (cells_in T) (cells_in T') (made_larger n T T' made) single.keeps in
        inr (λ h k. omega (arith, nothing.active, held, free f holds, root h k))
    by_one (inr (full, another)) before =
        let larger = made_larger n T T' made in
        let some : 0 < size_of T' = omega (arith, table.sound.shaped.blocks.some, larger) in
        let held = held_another (size_of T) (size_of T') (cells_in T) (cells_in T') larger single.keeps another.0 (held_inside T' another.0 some another.2) another.1 another.2 in
        inr (λ h k. omega (arith, few, made.active, held, full_held slots T f table holds full, root h k))

-- ---- a key whose first byte another one has

pub joined : (size : ℕ) (T : Cells) (f : Forest) (key w rest : List ℕ) (a : ℕ) → HoldsTree size T f → IsAt T w a → (w ≡ [] → ⊥) → w ++ rest ≡ key → joins (root_of f) key ≡ 1
joined size T f key [] rest a h at some e = absurd (some refl)
joined size T f key (b ∷ w) rest a h at some e =
    let there : HasPath (root_of f) (b ∷ w) = at_path size T f (b ∷ w) a h at in
    subst (λ k. joins (root_of f) k ≡ 1) e (cond-true {A = ℕ} (has_label f b) 1 0 there.0)
