-- The ring of a block that is new: each of its slots is free, and comes before the next one.
use Rattle.std.proofs.Common.{◌≡◌, ℕ, zero, suc, ◌+◌, ◌*◌, ◌/◌, ◌<◌, ◌≤◌, ◌⊎◌, List, [], ◌∷◌, length, not, true, int_lt, refl, sym, ap, subst, inl, inr, ◌∙◌, arith, pos}
use Rattle.std.proofs.lemmas.Bool.{cases_eq, cases_lt, ne_eqb, eq-eqb, and_from, and_right, cond-true, cond-false}
use Rattle.cedar_slots.specs.declared.records.NodeRecord.{NodeRecord}
use Rattle.cedar_slots.specs.declared.records.NInfoRecord.{NInfoRecord}
use Rattle.cedar_slots.specs.Ring.{first_of, occurs, Chain}
use Rattle.cedar_slots.specs.Slots.{info_at, blank_info, check_at, SlotLink, is_free, FreeRing}
use Rattle.cedar_slots.proofs.RingsLemmas.Ring.{occurs_same, occurs_other}
use Rattle.cedar_slots.proofs.RingsLemmas.LinkedSlots.{neg_pos_below}

pub block_range : (s b : ℕ) → s / 256 ≡ b → (256 * b ≤ s) × (s < 256 * b + 256)
block_range s b h = (omega arith, omega arith)

-- n numbers from x on
abbrev pub count_from : ℕ → ℕ → List ℕ
count_from x zero = []
count_from x (suc n) = x ∷ count_from (x + 1) n

pub length-count_from : (x n : ℕ) → length (count_from x n) ≡ n
length-count_from x zero = refl
length-count_from x (suc n) = ap suc (length-count_from (x + 1) n)

not_both : (n : ℕ) → 0 < n → n ≡ 0 → ⊥
not_both n p e = omega arith

pub outside : (s x n : ℕ) → (s < x) ⊎ (x + n ≤ s) → occurs s (count_from x n) ≡ 0
outside s x zero h = refl
outside s x (suc n) h = let other : s ≡ x → ⊥ = λ e. elim h [ inl p ↦ absurd (omega arith) | inr p ↦ absurd (omega arith) ] in
    occurs_other s x (count_from (x + 1) n) other ∙ outside s (x + 1) n (elim h [ inl p ↦ inl (omega arith) | inr p ↦ inr (omega arith) ])

pub inside : (s x n : ℕ) → x ≤ s → s < x + n → occurs s (count_from x n) ≡ 1
inside s x zero p q = absurd (omega arith)
inside s x (suc n) p q = elim (cases_eq s x) [
  | inl same ↦ subst (λ m. occurs m (x ∷ count_from (x + 1) n) ≡ 1) (sym same) (omega (arith, occurs_same x (count_from (x + 1) n), outside x (x + 1) n (inl (omega arith))))
  | inr other ↦ occurs_other s x (count_from (x + 1) n) other ∙ inside s (x + 1) n (omega arith) (omega arith)
]

pub first_count_from : (x n : ℕ) → 0 < n → first_of (count_from x n) ≡ x
first_count_from x zero h = absurd (omega arith)
first_count_from x (suc n) h = refl

pub chain_from : (Link : ℕ → ℕ → Type 0) (x n y : ℕ) → ((s : ℕ) → x ≤ s → s < x + n → Link s (s + 1)) → Link (x + n) y → Chain Link x (count_from (x + 1) n) y
chain_from Link x zero y steps last = subst (λ m. Link m y) (omega arith) last
chain_from Link x (suc n) y steps last = (steps x (omega arith) (omega arith), chain_from Link (x + 1) n y (λ s p q. steps s (omega arith) (omega arith)) (subst (λ m. Link m y) (omega arith) last))

pub beside : (b s : ℕ) → (s / 256 ≡ b → ⊥) → (s < 256 * b) ⊎ (256 * b + 256 ≤ s)
beside b s away = elim (cases_lt s (256 * b)) [
  | inl below ↦ inl below
  | inr from ↦ elim (cases_lt s (256 * b + 256)) [ inl upto ↦ absurd (away (omega arith)) | inr above ↦ inr above ]
]

-- the slots of the block b are free, and each is linked to the next and the last to the first
pub FreeRing-fresh : (nodes : List NodeRecord) (infos : List NInfoRecord) (b : ℕ) → 0 < b
    → ((s : ℕ) → 256 * b ≤ s → s < 256 * b + 255 → SlotLink nodes s (s + 1)) → SlotLink nodes (256 * b + 255) (256 * b)
    → ((s : ℕ) → s / 256 ≡ b → info_at infos s ≡ blank_info) → FreeRing nodes infos b (count_from (256 * b) 256)
FreeRing-fresh nodes infos b positive steps last blank = record {
  once = λ s. elim (cases_eq (s / 256) b) [
    | inl here ↦ let r = block_range s b here in inside s (256 * b) 256 r.0 r.1 ∙ sym (cond-true _ 1 0 (and_from _ _ (free s r.0 r.1) (eq-eqb _ _ here)))
    | inr away ↦ outside s (256 * b) 256 (beside b s away) ∙ sym (cond-false _ 1 0 (and_right _ _ (ne_eqb _ _ away)))
  ];
  is_linked = chain_from (SlotLink nodes) (256 * b) 255 (256 * b) steps last;
  cleared = λ s p. blank s (here_of s p);
}
  where
    here_of : (s : ℕ) → 0 < occurs s (count_from (256 * b) 256) → s / 256 ≡ b
    here_of s p = elim (cases_eq (s / 256) b) [ inl here ↦ here | inr away ↦ absurd (not_both _ p (outside s (256 * b) 256 (beside b s away))) ]

    free : (s : ℕ) → 256 * b ≤ s → s < 256 * b + 256 → is_free nodes s ≡ true
    free s p q = and_from _ _ (ap not (ne_eqb s 0 (λ e. omega arith))) (elim (cases_eq s (256 * b + 255)) [
      | inl is_last ↦ subst (λ m. int_lt (check_at nodes m) (pos 0) ≡ true) (sym is_last) (ap (λ z. int_lt z (pos 0)) last.0 ∙ neg_pos_below (256 * b) (omega arith))
      | inr not_last ↦ ap (λ z. int_lt z (pos 0)) (steps s p (omega arith)).0 ∙ neg_pos_below (s + 1) (omega arith)
    ])
