-- How many slots are held where no slot outside block 0 is free: all of those, and in block 0 the root's and those of
-- its children.
use Rattle.std.proofs.Common.{◌≡◌, ℕ, zero, suc, ◌+◌, ◌-◌, ◌<◌, ◌≤◌, ◌||◌, List, [], ◌∷◌, length, sym, ◌∙◌, ap, refl, subst, inl, inr, arith, ℤ, not, int_lt, false}
use Rattle.std.specs.Prelude.{bit_xor, pos, negsuc}
use Rattle.std.specs.Int.Bits.{xor_zero_l}
use Rattle.std.specs.List.{count_by, range_with_len}
use Rattle.std.proofs.lemmas.Bool.{cases_eq, cond-true, cond-false, ne_eqb}
use Rattle.cedar_tree.specs.Tree.{Forest}
use Rattle.cedar_tree.specs.Queries.{slots_of_tree}
use Rattle.cedar_model.specs.Table.Cells.{Cells, is_held, NoPlace}
use Rattle.cedar_model.specs.Meaning.Family.{base_in, base_of, below, Head, plain, valued, own, top, Among, Family}
use Rattle.cedar_model.specs.Table.Layouts.{default_layout}
use Rattle.cedar_model.specs.Meaning.StandsFor.{labels, slot_at, OnPath, HoldsTree}
use Rattle.cedar_slots.specs.Ring.{occurs}
use Rattle.cedar_model.specs.Table.TableFields.{Fields, size_of}
use Rattle.cedar_model.specs.Meaning.WellFormed.{cells_in, tree_of, IsWellFormed}
use Rattle.cedar_model.proofs.CellsLemmas.PlacesFound.{held-is_held}
use Rattle.cedar_slots.proofs.ListsLemmas.FreeCounts.{count_by-total, total, total-append, total-occurs, total-same, yes}
use Rattle.cedar_model.proofs.MeaningLemmas.NamedSlots.{none_of}
use Rattle.cedar_model.proofs.MeaningLemmas.OneNode.{DistinctList, labels_own, links_small, owned_label}
use Rattle.cedar_model.proofs.MeaningLemmas.Paths.{node_on}
use Rattle.cedar_slots.proofs.RingsLemmas.Ring.{occurs_other, occurs_same}
use Rattle.cedar_model.proofs.MeaningLemmas.ExclusiveOr.{xor_back}
use Rattle.cedar_model.proofs.MeaningLemmas.HeldCount.{count_is_used}
use Rattle.cedar_model.proofs.MeaningLemmas.OneTree.{family_distinct, family_no_zero}
use Rattle.cedar_slots.proofs.RingsLemmas.InBlock.{xor_block}

-- ---- how often a label is among those of a node

occurs_among : (x : ℕ) (xs : List ℕ) → 0 < occurs x xs → Among xs x
occurs_among x [] h = absurd (omega arith)
occurs_among x (y ∷ ys) h = elim (cases_eq x y) [
  | inl e ↦ inl (sym e)
  | inr n ↦ inr (occurs_among x ys (omega (arith, h, occurs_other x y ys n)))
]

-- each member of a list that has none twice is in it once
distinct_once : (x : ℕ) (xs : List ℕ) → DistinctList xs → Among xs x → occurs x xs ≡ 1
distinct_once x [] d a = absurd a
distinct_once x (y ∷ ys) d a = elim (cases_eq x y) [
  | inl e ↦
      let rest : occurs y ys ≡ 0 = none_of (occurs y ys) (λ h. d.0 (occurs_among y ys h)) in
      subst (λ z. occurs z (y ∷ ys) ≡ 1) (sym e) (omega (arith, rest, occurs_same y ys))
  | inr n ↦
      let later : Among ys x = elim a [ inl e ↦ absurd (n (sym e)) | inr m ↦ m ] in
      omega (arith, occurs_other x y ys n, distinct_once x ys d.1 later)
]

-- ---- which slots of block 0 are held

-- a base outside block 0 leads to no slot of block 0
stays_outside : (b q : ℕ) → 256 ≤ b → bit_xor b q < 256 → 256 ≤ q
stays_outside b q far small = omega (arith, xor_block b (bit_xor b q) small, xor_back b q)

-- a node other than the root owns no slot of block 0
owned_outside : (size : ℕ) (T : Cells) (s q : ℕ) (h : Head) (ls : List ℕ) → Family size T s h ls → (s ≡ 0 → ⊥) → T.check q ≡ pos s → 256 ≤ q
owned_outside size T s q plain [] f z o = absurd (f.only q o)
owned_outside size T s q plain (l ∷ ls) f z o =
    stays_outside (base_of T s) q f.based.0 (links_small T s _ (l ∷ ls) f.begins (below T s q) (f.only q o))
owned_outside size T s q (valued v) ls f z o =
    let small : below T s q < 256 = elim (f.only q o) [
      | inl e ↦ omega (arith, e)
      | inr a ↦ links_small T s _ ls f.begins.4 (below T s q) a
    ] in
    stays_outside (base_of T s) q f.based.0 small
owned_outside size T s q (own v) ls f z o = absurd (subst (λ xs. Among xs (below T s q)) f.begins.1 (f.only q o))
owned_outside size T s q top ls f z o = absurd (z f.begins.0)

module _ (size : ℕ) (T : Cells) (f : Forest) (w : HoldsTree size T f) where
  -- so the owner of a slot of block 0 is the root
  owner_is_root : (q c : ℕ) → q < 256 → T.check q ≡ pos c → T.check q ≡ pos 0
  owner_is_root q c small o = let way = w.reached q c o in by_path way.0 way.1 way.2
    where
      by_path : (p : List ℕ) → OnPath T p → slot_at T p ≡ c → T.check q ≡ pos 0
      by_path [] on at = o ∙ ap pos (sym at)
      by_path (l ∷ p) on at =
          let y = node_on size T f w l p on in
          let not_root : slot_at T (l ∷ p) ≡ 0 → ⊥ = λ e. w.root (slot_at T p) (ap T.check (sym e) ∙ on.1) in
          absurd (omega (arith, small, owned_outside size T (slot_at T (l ∷ p)) q y.node.head (labels y.children) y.node.family not_root (o ∙ ap pos (sym at))))

  root_step : (l : ℕ) → below T 0 l ≡ l
  root_step l = ap (λ st. bit_xor (base_in st) l) w.stands.0.based ∙ xor_zero_l l

  child_slot : (s : ℕ) → Among (labels f) s → T.check s ≡ pos 0
  child_slot s a = ap T.check (sym (root_step s)) ∙ labels_own T 0 top (labels f) w.stands.0.begins s a

  no_zero_label : Among (labels f) 0 → ⊥
  no_zero_label a = family_no_zero T 0 top (labels f) w.stands.0.begins a

  by_check : (s : ℕ) (z : ℤ) → s < 256 → (s ≡ 0 → ⊥) → T.check s ≡ z → occurs s (labels f) ≡ yes (is_held T s)
  by_check s (pos c) small n e =
      let among : Among (labels f) s = owned_label size T 0 s top (labels f) w.stands.0 n (ap T.check (root_step s) ∙ owner_is_root s c small e) in
      omega (arith, distinct_once s (labels f) (family_distinct size T 0 top (labels f) w.stands.0) among, cond-true {A = ℕ} (is_held T s) 1 0 (held-is_held T s (inr (c, e))))
  by_check s (negsuc m) small n e =
      let free : is_held T s ≡ false = ap (λ b. b || not (int_lt (T.check s) (pos 0))) (ne_eqb s 0 n) ∙ ap (λ y. not (int_lt y (pos 0))) e in
      let unnamed : occurs s (labels f) ≡ 0 = none_of _ (λ h. other m 0 (sym e ∙ child_slot s (occurs_among s (labels f) h))) in
      omega (arith, unnamed, cond-false {A = ℕ} (is_held T s) 1 0 free)
    where
      other : (m c : ℕ) → negsuc m ≡ pos c → ⊥
      other m c h = cc

  -- in block 0 just the root's slot and those of its children are held
  first_held : (s : ℕ) → s < 256 → occurs s (0 ∷ labels f) ≡ yes (is_held T s)
  first_held s small = elim (cases_eq s 0) [
    | inl e ↦
        let none : occurs 0 (labels f) ≡ 0 = none_of _ (λ h. no_zero_label (occurs_among 0 (labels f) h)) in
        subst (λ x. occurs x (0 ∷ labels f) ≡ yes (is_held T x)) (sym e) (omega (arith, none, occurs_same 0 (labels f)))
    | inr n ↦ occurs_other s 0 (labels f) n ∙ by_check s (T.check s) small n refl
  ]

  first_inside : (s : ℕ) → 0 < occurs s (0 ∷ labels f) → (0 ≤ s) × (s < 0 + 256)
  first_inside s h = elim (cases_eq s 0) [
    | inl e ↦ (omega arith, omega (arith, e))
    | inr n ↦ (omega arith, omega (arith, links_small T 0 _ (labels f) w.stands.0.begins.2 s (occurs_among s (labels f) (omega (arith, h, occurs_other s 0 (labels f) n)))))
  ]

  first_counted : total (λ s. yes (is_held T s)) 0 256 ≡ 1 + length (labels f)
  first_counted =
      total-same (λ s. yes (is_held T s)) (λ s. occurs s (0 ∷ labels f)) 0 256 (λ s low high. sym (first_held s (omega arith)))
      ∙ total-occurs (0 ∷ labels f) 0 256 first_inside
      ∙ omega arith

-- ---- all slots from 256 on

total_all : (g : ℕ → ℕ) (a n : ℕ) → ((s : ℕ) → a ≤ s → s < a + n → g s ≡ 1) → total g a n ≡ n
unfolding total
total_all g a zero each = refl
total_all g a (suc n) each = omega (arith, each a (omega arith) (omega arith), total_all g (a + 1) n (λ s low high. each s (omega arith) (omega arith)))

-- so many slots are held where none is free but in block 0
pub full_counted : (size m : ℕ) (T : Cells) (f : Forest) → size ≡ 256 + m → HoldsTree size T f → NoPlace size T → count_by (is_held T) (range_with_len 0 size) + 255 ≡ size + length (labels f)
full_counted size m T f is w full =
    let later : total (λ s. yes (is_held T s)) (0 + 256) m ≡ m = total_all (λ s. yes (is_held T s)) (0 + 256) m (λ s low high. cond-true {A = ℕ} (is_held T s) 1 0 (held-is_held T s (full s (omega arith) (omega arith)))) in
    let whole : total (λ s. yes (is_held T s)) 0 size ≡ total (λ s. yes (is_held T s)) 0 256 + total (λ s. yes (is_held T s)) (0 + 256) m = ap (total (λ s. yes (is_held T s)) 0) is ∙ total-append (λ s. yes (is_held T s)) 0 256 m in
    omega (arith, count_by-total (is_held T) 0 size, whole, first_counted size T f w, later, is)

pub full_blocks_counted : (slots : ℕ) (T : Fields) → IsWellFormed slots T → T.layout ≡ default_layout → NoPlace (size_of T) (cells_in T) → size_of T + length (labels (tree_of T).children) ≡ slots_of_tree (tree_of T) + 255
full_blocks_counted slots T w layout full =
    let some : size_of T ≡ 256 + (size_of T - 256) = omega (arith, w.table.sound.shaped.blocks.some) in
    let held = full_counted (size_of T) (size_of T - 256) (cells_in T) (tree_of T).children some w.stands full in
    omega (arith, held, count_is_used slots T w layout)
