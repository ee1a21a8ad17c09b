-- What a check reads of the free slots of a block: how many there are, and the links of their ring.
use Rattle.std.proofs.Common.{◌≡◌, ℕ, ◌+◌, ◌*◌, ◌/◌, ◌<◌, ◌≤◌, List, not, true, false, refl, sym, ap, subst, inl, inr, ◌∙◌, arith, ◌<ℤ◌, ℤ, pos, negsuc, neg_ℤ, int_lt, unsigned_abs}
use Rattle.std.proofs.lemmas.Bool.{and_from, and_left, and_parts, cases_eq, eq-eqb, eqb-true, ne_eqb}
use borrow.Author.Tests.{ltb-true}
use Rattle.std.proofs.lemmas.Int.{ints}
use Rattle.cedar_slots.specs.declared.records.NodeRecord.{NodeRecord}
use Rattle.cedar_slots.specs.declared.records.NInfoRecord.{NInfoRecord}
use Rattle.cedar_file.specs.PlaceChecks.{HasBlankLabels, free_here, passing_count}
use Rattle.cedar_slots.specs.Slots.{base_at, blank_info, check_at, info_at, is_free, SlotFields, SlotLink}
use Rattle.cedar_file.proofs.ChecksLemmas.Cycle.{Circuit, passing_hit, passing_miss}
use Rattle.cedar_slots.proofs.RingsLemmas.FreshBlock.{block_range}
use Rattle.cedar_slots.proofs.RingsLemmas.LinkedSlots.{abs_neg_pos, SlotLink-fixed}

-- the slot after s, if s is free
abbrev pub next_of : List NodeRecord → ℕ → ℕ
next_of nodes s = unsigned_abs (check_at nodes s)

pub no_labels : (info : NInfoRecord) → info.sibling ≡ 0 → info.child ≡ 0 → info ≡ blank_info
no_labels info p q =
    let labels : ℕ → ℕ → NInfoRecord = λ s c. record { sibling = s; child = c } in
    ap (λ s. labels s info.child) p ∙ ap (labels 0) q

-- what a test for below 0 says
pub below_zero : (z : ℤ) → z <ℤ pos 0 → int_lt z (pos 0) ≡ true
below_zero (pos n) h = absurd (omega (arith, ints))
below_zero (negsuc n) h = refl

neg_abs : (z : ℤ) → int_lt z (pos 0) ≡ true → z ≡ neg_ℤ (pos (unsigned_abs z))
neg_abs (pos n) h = absurd (omega (arith, ltb-true n 0 h))
neg_abs (negsuc n) h = refl

pub slot_step : (nodes : List NodeRecord) (x y : ℕ) → SlotLink nodes x y → next_of nodes x ≡ y
slot_step nodes x y link = ap unsigned_abs link.0 ∙ abs_neg_pos y

module _ (nodes : List NodeRecord) (b : ℕ) where
  pub slots_within : (x : ℕ) → free_here nodes b x ≡ true → (256 * b ≤ x) × (x < 256 * b + 256)
  slots_within x here = block_range x b (eqb-true _ _ (and_parts _ _ here).1)

  pub here_block : (x : ℕ) → free_here nodes b x ≡ true → x / 256 ≡ b
  here_block x here = eqb-true _ _ (and_parts _ _ here).1

  pub free_from : (x : ℕ) → (x ≡ 0 → ⊥) → check_at nodes x <ℤ pos 0 → x / 256 ≡ b → free_here nodes b x ≡ true
  free_from x some below here = and_from _ _ (and_from _ _ (ap not (ne_eqb x 0 some)) (below_zero (check_at nodes x) below)) (eq-eqb _ _ here)

  pub link_from : (x y : ℕ) → free_here nodes b x ≡ true → y ≡ next_of nodes x → base_at nodes y ≡ neg_ℤ (pos x) → SlotLink nodes x y
  link_from x y here next base = (neg_abs (check_at nodes x) (and_parts _ _ (and_parts _ _ here).0).1 ∙ ap (λ n. neg_ℤ (pos n)) (sym next), base)

  -- ---- the count of the free slots, one more slot read

  slot_here : (place : ℕ) → place < 256 → (256 * b + place) / 256 ≡ b
  slot_here place low = omega arith

  pub count_free : (place count more : ℕ) → place < 256 → count ≡ passing_count (free_here nodes b) (256 * b) place → is_free nodes (256 * b + place) ≡ true → more ≡ count + 1 → more ≡ passing_count (free_here nodes b) (256 * b) (place + 1)
  count_free place count more low sofar free is = passing_hit (free_here nodes b) (256 * b) place (256 * b + place) count more refl sofar (and_from _ _ free (eq-eqb _ _ (slot_here place low))) is

  pub count_used : (place count more : ℕ) → count ≡ passing_count (free_here nodes b) (256 * b) place → is_free nodes (256 * b + place) ≡ false → more ≡ count → more ≡ passing_count (free_here nodes b) (256 * b) (place + 1)
  count_used place count more sofar used is = passing_miss (free_here nodes b) (256 * b) place (256 * b + place) count more refl sofar (and_left _ _ used) is

-- the ring of the free slots of the block b
abbrev pub slot_circuit : List NodeRecord → ℕ → Circuit
slot_circuit nodes b = record {
  next = next_of nodes;
  Link = SlotLink nodes;
  test = free_here nodes b;
  low = 256 * b;
  m = 256;
  steps = slot_step nodes;
  fixed = SlotLink-fixed nodes;
  within = slots_within nodes b;
}

-- the free slots of the block b have no labels, as far as it was read
abbrev pub ClearedTo : SlotFields → ℕ → ℕ → Type 0
ClearedTo slots b place = (s : ℕ) → is_free slots.nodes s ≡ true → 256 * b ≤ s → s < 256 * b + place → info_at slots.infos s ≡ blank_info

pub cleared_more : (slots : SlotFields) (b place : ℕ) → ClearedTo slots b place → (is_free slots.nodes (256 * b + place) ≡ true → info_at slots.infos (256 * b + place) ≡ blank_info) → ClearedTo slots b (place + 1)
cleared_more slots b place sofar here s free low high = elim (cases_eq s (256 * b + place)) [
  | inl same ↦ subst (λ n. info_at slots.infos n ≡ blank_info) (sym same) (here (subst (λ n. is_free slots.nodes n ≡ true) same free))
  | inr before ↦ sofar s free low (omega arith)
]
