-- What the tests of a header's sizes say.
use Rattle.std.proofs.Common.{◌≡◌, ℕ, zero, suc, ◌*◌, ◌/◌, ◌%◌, ◌^◌, ◌≤◌, Bool, true, false, ◌&&◌, [], ◌∷◌, None, arith, refl, sym, ap, ◌∙◌, inl, inr}
use Rattle.std.proofs.lemmas.Bool.{cases_lt, eqb-true, leb-true, and_parts}
use Rattle.std.proofs.lemmas.Nat.{ones_le_self, pow_pos, zero_from_ones}
use Rattle.std.specs.Prelude.{◌==◌, codes, count_ones, nat_le}
use Rattle.std.specs.Int.{is_power_of_two}
use Rattle.std.proofs.Math.Nat.{mul_assoc, pow-succ'}
use lib.Count.{ones_step}
use Rattle.cedar_slots.specs.Places.{IsPowerOfTwo}
use Rattle.cedar_format.specs.declared.header.Header.{Header}
use Rattle.cedar_format.specs.Format.{listed_slots, listed_in, need, size_refusal, tables_len, HasSizes}
use Rattle.cedar_format.specs.Refusal.{Refusal, InvalidHeader, AllocationLimitExceeded, first_refusal, unless}

halved : (n j m : ℕ) → n ≡ 2 * (n / 2) → n / 2 ≡ 2 ^ j * m → 2 ^ suc j ≡ 2 * 2 ^ j → n ≡ 2 ^ suc j * m
halved n j m even e least = even ∙ ap (λ x. 2 * x) e ∙ sym (mul_assoc 2 (2 ^ j) m) ∙ ap (λ x. x * m) (sym least)

-- a number of one bit that isn't below 2 ^ j is a multiple of it
one_bit : (j n : ℕ) → count_ones n ≡ 1 → 2 ^ j ≤ n → (m : ℕ) × (n ≡ 2 ^ j * m)
one_bit zero n one most = (n, omega arith)
one_bit (suc j) n one most =
    let step = ones_step n in
    let least : 2 ^ suc j ≡ 2 * 2 ^ j = pow-succ' 2 j in
    elim (cases_lt 0 (n % 2)) [
      | inl odd ↦
          let half : n / 2 ≡ 0 = zero_from_ones (n / 2) (omega arith) in
          absurd (omega (arith, pow_pos j))
      | inr even ↦
          let (m, e) = one_bit j (n / 2) (omega arith) (omega arith) in
          (m, halved n j m (omega arith) e least)
    ]

-- a factor of 2 changes no count of ones
ones_doubled : (n : ℕ) → count_ones (2 * n) ≡ count_ones n
ones_doubled n =
    let half : 2 * n / 2 ≡ n = omega arith in
    let even : 2 * n % 2 ≡ 0 = omega arith in
    let step = ones_step (2 * n) in
    let same : count_ones (2 * n / 2) ≡ count_ones n = ap count_ones half in
    omega arith

ones_shifted : (j n : ℕ) → count_ones (2 ^ j * n) ≡ count_ones n
ones_shifted zero n = ap count_ones (omega arith)
ones_shifted (suc j) n =
    let twice : 2 ^ suc j * n ≡ 2 * (2 ^ j * n) = ap (λ m. m * n) (pow-succ' 2 j) ∙ mul_assoc 2 (2 ^ j) n in
    ap count_ones twice ∙ ones_doubled (2 ^ j * n) ∙ ones_shifted j n

-- a number of one bit is a power of two
power_of : (most n : ℕ) → n ≤ most → count_ones n ≡ 1 → IsPowerOfTwo n
power_of zero n small one = absurd (omega (arith, ones_le_self n))
power_of (suc most) n small one =
    let step = ones_step n in
    elim (cases_lt 0 (n % 2)) [
      | inl odd ↦
          let half : n / 2 ≡ 0 = zero_from_ones (n / 2) (omega arith) in
          (0, omega arith)
      | inr even ↦
          let (k, e) = power_of most (n / 2) (omega arith) (omega arith) in
          (suc k, omega (arith, pow-succ' 2 k))
    ]

-- what five tests let pass
tests_pass : (a b c d e : Bool) (p q r s t : Refusal) → first_refusal (unless a p ∷ unless b q ∷ unless c r ∷ unless d s ∷ unless e t ∷ []) ≡ None
    → (a ≡ true) × (b ≡ true) × (c ≡ true) × (d ≡ true)
tests_pass true true true true e p q r s t none = (refl, refl, refl, refl)
tests_pass true true true false e p q r s t none = absurd cc
tests_pass true true false d e p q r s t none = absurd cc
tests_pass true false c d e p q r s t none = absurd cc
tests_pass false b c d e p q r s t none = absurd cc

all_three : (a b c : Bool) → (a && b && c) ≡ true → (a ≡ true) × (b ≡ true) × (c ≡ true)
all_three true true c e = (refl, refl, e)
all_three true false c e = absurd cc
all_three false b c e = absurd cc

pub has_sizes : (slots limit : ℕ) (h : Header) → size_refusal slots limit h ≡ None → HasSizes slots h
has_sizes slots limit h e =
    let lens_test = (h.array_len == listed_in h) && (h.n_infos_len == listed_in h) in
    let capacity_test = is_power_of_two h.capacity && nat_le 256 h.capacity && nat_le h.capacity slots in
    let size_test = (h.size % 256 == 0) && nat_le 256 h.size && nat_le h.size h.capacity in
    let state_test = (h.blocks_len == listed_in h / 256) && (h.reject_len == 257) && nat_le h.entries h.size in
    let (lens, capacity, size, state) = tests_pass lens_test capacity_test size_test state_test (nat_le (need h) limit)
    (InvalidHeader (codes "node_vector_lengths") h.array_len) (InvalidHeader (codes "capacity") h.capacity) (InvalidHeader (codes "size") h.size) (InvalidHeader (codes "state_lengths") h.blocks_len) (AllocationLimitExceeded (need h) limit) e in
    let (array, infos) = and_parts (h.array_len == listed_in h) (h.n_infos_len == listed_in h) lens in
    let (one, least, most) = all_three (is_power_of_two h.capacity) (nat_le 256 h.capacity) (nat_le h.capacity slots) capacity in
    let (whole, some, in_capacity) = all_three (h.size % 256 == 0) (nat_le 256 h.size) (nat_le h.size h.capacity) size in
    let (blocks, reject, entries) = all_three (h.blocks_len == listed_in h / 256) (h.reject_len == 257) (nat_le h.entries h.size) state in
    let multiple = one_bit 8 h.capacity (eqb-true _ _ one) (leb-true _ _ least) in
    let is : h.capacity ≡ 256 * multiple.0 = multiple.1 in
    let whole_blocks : 256 * (h.capacity / 256) ≡ h.capacity = omega arith in
    record {
      array_len = eqb-true _ _ array;
      n_infos_len = eqb-true _ _ infos;
      blocks_len = eqb-true _ _ blocks;
      blocks = whole_blocks;
      doubled = power_of (h.capacity / 256) (h.capacity / 256) (omega arith) (sym (ones_shifted 8 (h.capacity / 256)) ∙ ap count_ones whole_blocks ∙ eqb-true _ _ one);
      reject_len = eqb-true _ _ reject;
      capacity = leb-true _ _ most;
      some = leb-true _ _ some;
      in_blocks = omega (arith, eqb-true _ _ whole);
      size = leb-true _ _ in_capacity;
    }

at_most : (minor capacity size : ℕ) → size ≤ capacity → listed_slots minor capacity size ≤ capacity
at_most zero capacity size within = omega arith
at_most (suc minor) capacity size within = within

-- no more is listed than there is
pub listed_within : (slots : ℕ) (h : Header) → HasSizes slots h → listed_in h ≤ h.capacity
listed_within slots h sizes = at_most h.minor h.capacity h.size sizes.size

-- the tables of a header that passes are within the need that it was tested for
pub within_need : (slots limit : ℕ) (h : Header) → size_refusal slots limit h ≡ None → tables_len h ≤ need h
within_need slots limit h e =
    let sizes = has_sizes slots limit h e in
    omega (arith, sizes.blocks, sizes.reject_len)
