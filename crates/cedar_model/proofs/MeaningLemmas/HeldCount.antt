-- How many slots are held: as many as the tree names, which by default is one for the root, one for each prefix and
-- one for each number.
use Rattle.std.proofs.Common.{◌≡◌, ℕ, ◌+◌, ◌<◌, ◌≤◌, ◌||◌, List, [], ◌∷◌, ◌++◌, length, map, length-append, sym, ◌∙◌, ap, refl, subst, inl, inr, arith, Option, Some, None, ℤ, Bool, not, cond, eqb, int_lt, true, false}
use Rattle.std.specs.Prelude.{pos, negsuc}
use Rattle.std.specs.List.{count_by, range_with_len}
use Rattle.std.proofs.lemmas.Bool.{cases_eq, cond-true, cond-false, ne_eqb}
use Rattle.std.proofs.lemmas.List.{length-map}
use Rattle.cedar_tree.specs.Tree.{Forest, none, child}
use Rattle.cedar_tree.specs.Queries.{own_entry, under, walk, walk_forest, prefixes, prefixes_forest, slots_of_tree}
use Rattle.cedar_model.specs.Table.Cells.{Cells, is_held}
use Rattle.cedar_model.specs.Meaning.Family.{below, top, Among}
use Rattle.cedar_model.specs.Table.Layouts.{LayoutKind, default_layout, reading}
use Rattle.cedar_model.specs.Meaning.Marks.{marks_below, marks}
use Rattle.cedar_model.specs.Meaning.StandsFor.{labels, ChildrenStand, HoldsTree}
use Rattle.cedar_model.specs.Meaning.Reading.{has_number_slot, own_number, number_in, tree_read}
use Rattle.cedar_slots.specs.Ring.{occurs}
use Rattle.cedar_slots.specs.Slots.{base_at}
use Rattle.cedar_model.specs.Table.TableFields.{Fields, size_of}
use Rattle.cedar_model.specs.Meaning.WellFormed.{cells_in, tree_of, IsWellFormed, number_slots, slots_below, slots_named}
use Rattle.cedar_model.proofs.CellsLemmas.HeldSlots.{natural_not_below}
use Rattle.cedar_slots.proofs.ListsLemmas.FreeCounts.{count_by-total, total-same, total-occurs, yes}
use Rattle.cedar_model.proofs.MeaningLemmas.NamedSlots.{first_or_later, none_of, owned_named, named_owned, named_once}
use Rattle.cedar_model.proofs.MeaningLemmas.OneNode.{labels_own, node_labels_own}
use Rattle.cedar_slots.proofs.RingsLemmas.Ring.{occurs_same, occurs_other}
use Rattle.cedar_model.proofs.MeaningLemmas.TreeOf.{in_use}
use Rattle.cedar_model.proofs.MeaningLemmas.OneTree.{node_reads}

or_true : (b : Bool) → (b || true) ≡ true
or_true true = refl
or_true false = refl

module _ (size : ℕ) (T : Cells) (f : Forest) (w : HoldsTree size T f) where
  root_apart : occurs 0 (slots_below T 0 f) ≡ 0
  root_apart = none_of _ (λ h. let o = named_owned size T f w 0 h in w.root o.0 o.1)

  by_check : (s : ℕ) (z : ℤ) → (s ≡ 0 → ⊥) → T.check s ≡ z → occurs s (slots_below T 0 f) ≡ yes (is_held T s)
  by_check s (pos c) n e =
      let held : is_held T s ≡ true = ap (λ b. eqb s 0 || not b) (natural_not_below (T.check s) c e) ∙ or_true (eqb s 0) in
      omega (arith, named_once size T f w s, owned_named size T f w s c e, cond-true {A = ℕ} (is_held T s) 1 0 held)
  by_check s (negsuc m) n e =
      let free : is_held T s ≡ false = ap (λ b. b || not (int_lt (T.check s) (pos 0))) (ne_eqb s 0 n) ∙ ap (λ y. not (int_lt y (pos 0))) e in
      let unnamed : occurs s (slots_below T 0 f) ≡ 0 = none_of _ (λ h. let o = named_owned size T f w s h in other m o.0 (sym e ∙ o.1)) in
      omega (arith, unnamed, cond-false {A = ℕ} (is_held T s) 1 0 free)
    where
      other : (m c : ℕ) → negsuc m ≡ pos c → ⊥
      other m c h = cc

  -- the tree names each held slot once, and no other
  pub named_held : (s : ℕ) → occurs s (0 ∷ slots_below T 0 f) ≡ yes (is_held T s)
  named_held s = elim (cases_eq s 0) [
    | inl e ↦ subst (λ x. occurs x (0 ∷ slots_below T 0 f) ≡ yes (is_held T x)) (sym e) (omega (arith, root_apart, occurs_same 0 (slots_below T 0 f)))
    | inr n ↦ occurs_other s 0 (slots_below T 0 f) n ∙ by_check s (T.check s) n refl
  ]

  pub count_named : ((q c : ℕ) → T.check q ≡ pos c → q < size) → 0 < size → count_by (is_held T) (range_with_len 0 size) ≡ length (0 ∷ slots_below T 0 f)
  count_named active some =
      count_by-total (is_held T) 0 size
      ∙ total-same (λ s. yes (is_held T s)) (λ s. occurs s (0 ∷ slots_below T 0 f)) 0 size (λ s low high. sym (named_held s))
      ∙ total-occurs (0 ∷ slots_below T 0 f) 0 size inside
    where
      inside : (s : ℕ) → 0 < occurs s (0 ∷ slots_below T 0 f) → (0 ≤ s) × (s < 0 + size)
      inside s h = elim (first_or_later s 0 (slots_below T 0 f) h) [
        | inl e ↦ (omega arith, omega (arith, e, some))
        | inr m ↦ let o = named_owned size T f w s m in (omega arith, omega (arith, active s o.0 o.1))
      ]

-- each entry has a slot of its own: its node's
pub entries_named : (T : Cells) (s : ℕ) (f : Forest) → length (walk_forest f) ≤ length (slots_below T s f)
entries_named T s none = omega arith
entries_named T s (child l n u rest) =
    let b : ℕ = below T s l in
    omega (
      arith,
      at_most_one n,
      entries_named T b u,
      entries_named T s rest,
      length-append (number_slots T b ++ slots_below T b u) (slots_below T s rest),
      length-append (number_slots T b) (slots_below T b u),
      length-append (map (under l) (own_entry n ++ walk_forest u)) (walk_forest rest),
      length-map (own_entry n ++ walk_forest u) (under l),
      length-append (own_entry n) (walk_forest u),
    )
  where
    at_most_one : (m : Option ℤ) → length (own_entry m) ≤ 1
    at_most_one None = omega arith
    at_most_one (Some v) = omega arith

-- ---- where each number is in a slot of its own

number_length : (T : Cells) (s : ℕ) (n : Option ℤ) → own_number (T.stored s) ≡ None → number_in T s ≡ n → length (number_slots T s) ≡ length (own_entry n)
number_length T s n none_own reads = by_test (has_number_slot T s) refl
  where
    by_test : (b : Bool) → has_number_slot T s ≡ b → length (number_slots T s) ≡ length (own_entry n)
    by_test true e =
        let some : n ≡ Some (T.base (below T s 0)) = sym reads ∙ ap (λ b. cond b (Some (T.base (below T s 0))) (own_number (T.stored s))) e in
        ap (λ b. length (cond {A = List ℕ} b (below T s 0 ∷ []) [])) e ∙ sym (ap (λ m. length (own_entry m)) some)
    by_test false e =
        let nothing : n ≡ None = sym reads ∙ ap (λ b. cond b (Some (T.base (below T s 0))) (own_number (T.stored s))) e ∙ none_own in
        ap (λ b. length (cond {A = List ℕ} b (below T s 0 ∷ []) [])) e ∙ sym (ap (λ m. length (own_entry m)) nothing)

slots_length : (size : ℕ) (T : Cells) → ((c : ℕ) → T.check 0 ≡ pos c → ⊥) → ((s : ℕ) → own_number (T.stored s) ≡ None) → (s : ℕ) (f : Forest) → ((l : ℕ) → Among (labels f) l → T.check (below T s l) ≡ pos s) → ChildrenStand size T s f → length (slots_below T s f) ≡ length (prefixes_forest f) + length (walk_forest f)
slots_length size T root own s none mine g = refl
slots_length size T root own s (child l n u rest) mine g =
    let b : ℕ = below T s l in
    let not_zero : b ≡ 0 → ⊥ = λ z. root s (ap T.check (sym z) ∙ mine l (inl refl)) in
    let number = number_length T b n (own b) (node_reads size T b n (labels u) not_zero g.0).number in
    let under_b = slots_length size T root own b u (node_labels_own size T b n (labels u) g.0) g.1 in
    let beside = slots_length size T root own s rest (λ y a. mine y (inr a)) g.2 in
    omega (
      arith,
      number,
      under_b,
      beside,
      length-append (number_slots T b ++ slots_below T b u) (slots_below T s rest),
      length-append (number_slots T b) (slots_below T b u),
      length-append (map (λ p. l ∷ p) (prefixes_forest u)) (prefixes_forest rest),
      length-map (prefixes_forest u) (λ p. l ∷ p),
      length-append (map (under l) (own_entry n ++ walk_forest u)) (walk_forest rest),
      length-map (own_entry n ++ walk_forest u) (under l),
      length-append (own_entry n) (walk_forest u),
    )

-- ---- wherever the numbers are kept

mark_length : (T : Cells) (s : ℕ) (n : Option ℤ) → number_in T s ≡ n → length (number_slots T s) ≡ length (own_entry (cond (has_number_slot T s) n None))
mark_length T s n reads = by_test (has_number_slot T s) refl
  where
    by_test : (b : Bool) → has_number_slot T s ≡ b → length (number_slots T s) ≡ length (own_entry (cond (has_number_slot T s) n None))
    by_test true e =
        let some : n ≡ Some (T.base (below T s 0)) = sym reads ∙ ap (λ b. cond b (Some (T.base (below T s 0))) (own_number (T.stored s))) e in
        ap (λ b. length (cond {A = List ℕ} b (below T s 0 ∷ []) [])) e ∙ sym (ap (λ m. length (own_entry m)) some) ∙ sym (ap (λ b. length (own_entry (cond b n None))) e)
    by_test false e = ap (λ b. length (cond {A = List ℕ} b (below T s 0 ∷ []) [])) e ∙ sym (ap (λ b. length (own_entry (cond b n None))) e)

marks_length : (size : ℕ) (T : Cells) → ((c : ℕ) → T.check 0 ≡ pos c → ⊥) → (s : ℕ) (f : Forest) → ((l : ℕ) → Among (labels f) l → T.check (below T s l) ≡ pos s) → ChildrenStand size T s f → length (slots_below T s f) ≡ length (prefixes_forest f) + length (walk_forest (marks_below T s f))
marks_length size T root s none mine g = refl
marks_length size T root s (child l n u rest) mine g =
    let b : ℕ = below T s l in
    let m : Option ℤ = cond (has_number_slot T b) n None in
    let not_zero : b ≡ 0 → ⊥ = λ z. root s (ap T.check (sym z) ∙ mine l (inl refl)) in
    let number = mark_length T b n (node_reads size T b n (labels u) not_zero g.0).number in
    let under_b = marks_length size T root b u (node_labels_own size T b n (labels u) g.0) g.1 in
    let beside = marks_length size T root s rest (λ y a. mine y (inr a)) g.2 in
    omega (
      arith,
      number,
      under_b,
      beside,
      length-append (number_slots T b ++ slots_below T b u) (slots_below T s rest),
      length-append (number_slots T b) (slots_below T b u),
      length-append (map (λ p. l ∷ p) (prefixes_forest u)) (prefixes_forest rest),
      length-map (prefixes_forest u) (λ p. l ∷ p),
      length-append (map (under l) (own_entry m ++ walk_forest (marks_below T b u))) (walk_forest (marks_below T s rest)),
      length-map (own_entry m ++ walk_forest (marks_below T b u)) (under l),
      length-append (own_entry m) (walk_forest (marks_below T b u)),
    )

pub default_own : (k : LayoutKind) (z : ℤ) → k ≡ default_layout → own_number (reading k z) ≡ None
default_own k z e = ap (λ j. own_number (reading j z)) e ∙ by_sign z
  where
    by_sign : (z : ℤ) → own_number (reading default_layout z) ≡ None
    by_sign (pos n) = refl
    by_sign (negsuc n) = refl

pub count_is_named : (slots : ℕ) (T : Fields) → IsWellFormed slots T → count_by (is_held (cells_in T)) (range_with_len 0 (size_of T)) ≡ length (slots_named (cells_in T) (tree_of T))
count_is_named slots T w =
    count_named (size_of T) (cells_in T) (tree_of T).children w.stands (in_use T) (omega (arith, w.table.sound.shaped.blocks.some))

pub count_is_used : (slots : ℕ) (T : Fields) → IsWellFormed slots T → T.layout ≡ default_layout → count_by (is_held (cells_in T)) (range_with_len 0 (size_of T)) ≡ slots_of_tree (tree_of T)
unfolding tree_read
count_is_used slots T w layout =
    let f : Forest = (tree_of T).children in
    let c : Cells = cells_in T in
    let below_root = slots_length (size_of T) c w.stands.root (λ s. default_own T.layout (base_at T.places.slots.nodes s) layout) 0 f (labels_own c 0 top (labels f) w.stands.stands.0.begins) w.stands.stands.1 in
    omega (arith, count_is_named slots T w, below_root)

pub count_is_marked : (slots : ℕ) (T : Fields) → IsWellFormed slots T → count_by (is_held (cells_in T)) (range_with_len 0 (size_of T)) ≡ 1 + length (prefixes (tree_of T)) + length (walk (marks T))
unfolding tree_read
count_is_marked slots T w =
    let f : Forest = (tree_of T).children in
    let c : Cells = cells_in T in
    let below_root = marks_length (size_of T) c w.stands.root 0 f (labels_own c 0 top (labels f) w.stands.stands.0.begins) w.stands.stands.1 in
    omega (arith, count_is_named slots T w, below_root)
