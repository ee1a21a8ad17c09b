-- How many slots are free: what the blocks count, summed, is what a count over all slots in use finds.
use Rattle.std.proofs.Common.{◌≡◌, ℕ, suc, zero, zero-add, ◌+◌, ◌*◌, ◌/◌, ◌<◌, ◌≤◌, ◌&&◌, List, [], ◌∷◌, length, Bool, not, cond, eqb, true, false, refl, sym, ap, inl, inr, ◌∙◌, arith, pos}
use Rattle.std.specs.List.{count_by, range_with_len}
use Rattle.std.proofs.lemmas.List.Sums.{sum_by-cons}
use Rattle.std.proofs.lemmas.Bool.{cases_eq, cases_Bool, cond-true, cond-false, eq-eqb, ne_eqb, and_from, and_left}
use Rattle.cedar_slots.specs.Ring.{occurs}
use Rattle.cedar_slots.specs.Slots.{is_free}
use Rattle.cedar_slots.specs.Blocks.{counts_at}
use Rattle.cedar_slots.specs.Places.{PlaceFields, Sound}
use Rattle.cedar_slots.specs.declared.blocks.Counts.{Counts}
use Rattle.cedar_slots.specs.declared.records.NodeRecord.{NodeRecord}
use Rattle.cedar_slots.proofs.RingsLemmas.Ring.{occurs_same}
use Rattle.cedar_slots.proofs.RingsLemmas.LinkedSlots.{member_free}
use Rattle.cedar_slots.proofs.RingsLemmas.FreshBlock.{block_range}

-- f of each of the n numbers from a on, summed
unfoldable pub total : (ℕ → ℕ) → ℕ → ℕ → ℕ
total f a zero = 0
total f a (suc n) = f a + total f (a + 1) n

abbrev pub yes : Bool → ℕ
yes b = cond b 1 0

pub count_by-total : (p : ℕ → Bool) (a n : ℕ) → count_by p (range_with_len a n) ≡ total (λ s. yes (p s)) a n
unfolding total
count_by-total p a zero = refl
count_by-total p a (suc n) = sum_by-cons (λ s. yes (p s)) a (range_with_len (a + 1) n) ∙ ap (λ k. yes (p a) + k) (count_by-total p (a + 1) n)

pub total-same : (f g : ℕ → ℕ) (a n : ℕ) → ((s : ℕ) → a ≤ s → s < a + n → f s ≡ g s) → total f a n ≡ total g a n
unfolding total
total-same f g a zero same = refl
total-same f g a (suc n) same = omega (arith, same a (omega arith) (omega arith), total-same f g (a + 1) n (λ s low high. same s (omega arith) (omega arith)))

total-add : (f g : ℕ → ℕ) (a n : ℕ) → total (λ s. f s + g s) a n ≡ total f a n + total g a n
unfolding total
total-add f g a zero = refl
total-add f g a (suc n) = omega (arith, total-add f g (a + 1) n)

pub total-append : (f : ℕ → ℕ) (a m n : ℕ) → total f a (m + n) ≡ total f a m + total f (a + m) n
unfolding total
total-append f a zero n =
    let from : a ≡ a + 0 = omega arith in
    ap (λ k. total f a k) (zero-add n) ∙ ap (λ k. total f k n) from ∙ sym (zero-add (total f (a + 0) n))
total-append f a (suc m) n =
    let step : total f a (suc (m + n)) ≡ f a + (total f (a + 1) m + total f (a + 1 + m) n) = ap (λ k. f a + k) (total-append f (a + 1) m n) in
    let at : total f (a + 1 + m) n ≡ total f (a + suc m) n = ap (λ k. total f k n) (omega arith) in
    let longer : suc m + n ≡ suc (m + n) = omega arith in
    ap (λ k. total f a k) longer ∙ omega (arith, step, at)

total_none : (f : ℕ → ℕ) (a n : ℕ) → ((s : ℕ) → a ≤ s → s < a + n → f s ≡ 0) → total f a n ≡ 0
unfolding total
total_none f a zero none = refl
total_none f a (suc n) none = omega (arith, none a (omega arith) (omega arith), total_none f (a + 1) n (λ s low high. none s (omega arith) (omega arith)))

is_one : (x s : ℕ) → (s ≡ x → ⊥) → yes (eqb s x) ≡ 0
is_one x s other = cond-false _ 1 0 (ne_eqb s x other)

total_one : (x a n : ℕ) → a ≤ x → x < a + n → total (λ s. yes (eqb s x)) a n ≡ 1
unfolding total
total_one x a zero low high = absurd (omega arith)
total_one x a (suc n) low high = elim (cases_eq a x) [
  | inl here ↦ omega (arith, cond-true {A = ℕ} (eqb a x) 1 0 (eq-eqb a x here), total_none (λ s. yes (eqb s x)) (a + 1) n (λ s from upto. is_one x s (λ same. absurd (omega arith))))
  | inr later ↦ omega (arith, is_one x a later, total_one x (a + 1) n (omega arith) (omega arith))
]

-- a list whose members lie among the n numbers from a on is as long as they are in it
pub total-occurs : (xs : List ℕ) (a n : ℕ) → ((s : ℕ) → 0 < occurs s xs → (a ≤ s) × (s < a + n)) → total (λ s. occurs s xs) a n ≡ length xs
unfolding total
total-occurs [] a n inside = total_none (λ s. 0) a n (λ s low high. refl)
total-occurs (x ∷ xs) a n inside =
    let here = inside x (omega (arith, occurs_same x xs)) in
    omega (
      arith,
      total-add (λ s. yes (eqb s x)) (λ s. occurs s xs) a n,
      total_one x a n here.0 here.1,
      total-occurs xs a n (λ s p. inside s (omega arith)),
    )

-- how many slots of the n from a on are free
abbrev pub free_total : List NodeRecord → ℕ → ℕ → ℕ
free_total nodes a n = total (λ s. yes (is_free nodes s)) a n

pub num_total : (places : PlaceFields) (b : ℕ) → Sound places → b < places.blocks.active → (counts : Counts) → counts ≡ counts_at places.blocks.records b → counts.num ≡ pos (free_total places.slots.nodes (256 * b) 256 + yes (eqb b 0))
num_total places b sound b_in counts read =
    let here = sound.free b b_in in
    let nodes = places.slots.nodes in
    let infos = places.slots.infos in
    let len : free_total nodes (256 * b) 256 ≡ length here.0 =
    total-same (λ s. yes (is_free nodes s)) (λ s. occurs s here.0) (256 * b) 256 (λ s low high. sym (here.1.ring.once s ∙ ap yes (in_block nodes s (omega arith))))
    ∙ total-occurs here.0 (256 * b) 256 (λ s p. block_range s b (member_free nodes infos b here.0 here.1.ring s p).1) in
    ap (λ (n : Counts). n.num) read ∙ here.1.counted.num ∙ ap pos (ap (λ n. n + yes (eqb b 0)) (sym len))
  where
    in_block : (nodes : List NodeRecord) (s : ℕ) → s / 256 ≡ b → (is_free nodes s && eqb (s / 256) b) ≡ is_free nodes s
    in_block nodes s at = elim (cases_Bool (is_free nodes s)) [
      | inl free ↦ and_from _ _ free (eq-eqb _ _ at) ∙ sym free
      | inr used ↦ and_left _ _ used ∙ sym used
    ]

pub free_total-le : (nodes : List NodeRecord) (a n : ℕ) → free_total nodes a n ≤ n
unfolding total
free_total-le nodes a zero = omega arith
free_total-le nodes a (suc n) = elim (cases_Bool (is_free nodes a)) [
  | inl free ↦ omega (arith, cond-true {A = ℕ} (is_free nodes a) 1 0 free, free_total-le nodes (a + 1) n)
  | inr used ↦ omega (arith, cond-false {A = ℕ} (is_free nodes a) 1 0 used, free_total-le nodes (a + 1) n)
]

-- each slot is free or not
pub used-free : (nodes : List NodeRecord) (a n : ℕ) → total (λ s. yes (not (is_free nodes s))) a n + free_total nodes a n ≡ n
unfolding total
used-free nodes a zero = refl
used-free nodes a (suc n) = elim (cases_Bool (is_free nodes a)) [
  | inl free ↦ omega (arith, cond-true {A = ℕ} (is_free nodes a) 1 0 free, cond-false {A = ℕ} (not (is_free nodes a)) 1 0 (ap not free), used-free nodes (a + 1) n)
  | inr used ↦ omega (arith, cond-false {A = ℕ} (is_free nodes a) 1 0 used, cond-true {A = ℕ} (not (is_free nodes a)) 1 0 (ap not used), used-free nodes (a + 1) n)
]

-- ---- the sum over the blocks

yes-le : (b : Bool) → yes b ≤ 1
yes-le true = omega arith
yes-le false = omega arith

-- what one block adds to the sum
abbrev pub block_total : List NodeRecord → ℕ → ℕ
block_total nodes b = free_total nodes (256 * b) 256 + yes (eqb b 0)

pub block_total-le : (nodes : List NodeRecord) (b : ℕ) → block_total nodes b ≤ 257
block_total-le nodes b = omega (arith, free_total-le nodes (256 * b) 256, yes-le (eqb b 0))

-- what the blocks below b count together: the root counts too, in block 0
abbrev pub sum_below : List NodeRecord → ℕ → ℕ
sum_below nodes b = free_total nodes 0 (256 * b) + cond (eqb b 0) 0 1

pub sum_below-none : (nodes : List NodeRecord) → sum_below nodes 0 ≡ 0
unfolding total
sum_below-none nodes = refl

pub sum_below-more : (nodes : List NodeRecord) (b : ℕ) → sum_below nodes (b + 1) ≡ sum_below nodes b + block_total nodes b
sum_below-more nodes b =
    let whole : free_total nodes 0 (256 * (b + 1)) ≡ free_total nodes 0 (256 * b) + free_total nodes (0 + 256 * b) 256 = ap (λ n. free_total nodes 0 n) (omega arith) ∙ total-append (λ s. yes (is_free nodes s)) 0 (256 * b) 256 in
    let from : free_total nodes (0 + 256 * b) 256 ≡ free_total nodes (256 * b) 256 = ap (λ n. free_total nodes n 256) (omega arith) in
    let later : cond {A = ℕ} (eqb (b + 1) 0) 0 1 ≡ 1 = cond-false {A = ℕ} (eqb (b + 1) 0) 0 1 (ne_eqb (b + 1) 0 (λ same. absurd (omega arith))) in
    omega (arith, whole, from, later, root (eqb b 0))
  where
    root : (t : Bool) → cond {A = ℕ} t 0 1 + yes t ≡ 1
    root true = refl
    root false = refl

pub sum_below-le : (nodes : List NodeRecord) (b : ℕ) → sum_below nodes b ≤ 256 * b + 1
sum_below-le nodes b = omega (arith, free_total-le nodes 0 (256 * b), at_most (eqb b 0))
  where
    at_most : (t : Bool) → cond {A = ℕ} t 0 1 ≤ 1
    at_most true = omega arith
    at_most false = omega arith

pub used-sum : (nodes : List NodeRecord) (m : ℕ) → 0 < m → 1 + 256 * m ≡ count_by (λ s. not (is_free nodes s)) (range_with_len 0 (256 * m)) + sum_below nodes m
used-sum nodes m some =
    let root : cond {A = ℕ} (eqb m 0) 0 1 ≡ 1 = cond-false {A = ℕ} (eqb m 0) 0 1 (ne_eqb m 0 (λ none. absurd (omega arith))) in
    omega (arith, root, used-free nodes 0 (256 * m), count_by-total (λ s. not (is_free nodes s)) 0 (256 * m))
