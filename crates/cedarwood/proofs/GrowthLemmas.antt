-- What an update of the table says of the dictionary's slots.
use Rattle.std.proofs.Common.{◌≡◌, ℕ, zero, suc, ◌+◌, ◌*◌, ◌≤◌, ◌==◌, inl, inr, Bool, true, false, cond, length, refl, ap, sym, ◌∙◌, arith}
use Rattle.std.proofs.lemmas.Bool.{cases_eq}
use Rattle.std.proofs.lemmas.Bool.Decides.{nat_tests}
use Rattle.cedar_model.specs.Edit.Steps.{blocks_after, MakesBlocks}
use Rattle.cedar_model.specs.Table.TableFields.{Fields}
use Rattle.cedarwood.specs.Dictionary.{Dictionary, Grows, capacity_after}
pub use Rattle.cedarwood.specs.OnTable.{dictionary_of}

same_test : (a c : ℕ) → (256 * a == 256 * c) ≡ (a == c)
same_test a c = elim (cases_eq a c) [
  | inl e ↦ grind (arith, nat_tests)
  | inr e ↦ grind (arith, nat_tests)
]

doubled : (b : Bool) (c : ℕ) → cond b (2 * (256 * c)) (256 * c) ≡ 256 * cond b (2 * c) c
doubled true c = omega arith
doubled false c = refl

-- slots are counted as blocks are
pub capacity_by_blocks : (n a c : ℕ) → capacity_after n (256 * a) (256 * c) ≡ 256 * blocks_after n a c
unfolding capacity_after blocks_after
capacity_by_blocks zero a c = refl
capacity_by_blocks (suc n) a c =
    let size : 256 * a + 256 ≡ 256 * (a + 1) = omega arith in
    let room : cond (256 * a == 256 * c) (2 * (256 * c)) (256 * c) ≡ 256 * cond (a == c) (2 * c) c =
    ap (λ t. cond t (2 * (256 * c)) (256 * c)) (same_test a c) ∙ doubled (a == c) c in
    ap (λ s. capacity_after n s (cond (256 * a == 256 * c) (2 * (256 * c)) (256 * c))) size
    ∙ ap (capacity_after n (256 * (a + 1))) room
    ∙ capacity_by_blocks n (a + 1) (cond (a == c) (2 * c) c)

pub no_less : (b : Bool) (c : ℕ) → c ≤ cond b (2 * c) c
no_less true c = omega arith
no_less false c = omega arith

pub blocks_stay : (n a c : ℕ) → c ≤ blocks_after n a c
unfolding blocks_after
blocks_stay zero a c = omega arith
blocks_stay (suc n) a c =
    let here : c ≤ cond (a == c) (2 * c) c = no_less (a == c) c in
    let later : cond (a == c) (2 * c) c ≤ blocks_after n (a + 1) (cond (a == c) (2 * c) c) = blocks_stay n (a + 1) (cond (a == c) (2 * c) c) in
    omega arith

pub grows : (n limit : ℕ) (T T' : Fields) → MakesBlocks n T T' → Grows n (dictionary_of limit T) (dictionary_of limit T')
grows n limit T T' made = record {
  size = omega (arith, made.active);
  capacity = ap (λ b. 256 * b) made.capacity ∙ sym (capacity_by_blocks n T.places.blocks.active (length T.places.blocks.records));
}

pub grows_none : (d : Dictionary) → Grows 0 d d
unfolding capacity_after
grows_none d = record { size = omega arith; capacity = refl }

-- the slots that there are once m blocks and then n more are in use
pub capacity_after-sum : (m n size capacity : ℕ) → capacity_after (m + n) size capacity ≡ capacity_after n (size + 256 * m) (capacity_after m size capacity)
unfolding capacity_after
capacity_after-sum zero n size capacity =
    let none : zero + n ≡ n = omega arith in
    let same : size + 256 * zero ≡ size = omega arith in
    rw (none, same) refl
capacity_after-sum (suc m) n size capacity =
    let one_less : suc m + n ≡ suc (m + n) = omega arith in
    let same : size + 256 * suc m ≡ size + 256 + 256 * m = omega arith in
    rw (one_less, same) (capacity_after-sum m n (size + 256) (cond (size == capacity) (2 * capacity) capacity))

-- blocks that came in two steps
pub grows_further : (m n : ℕ) (a b c : Dictionary) → Grows m a b → Grows n b c → Grows (m + n) a c
grows_further m n a b c first second =
    let size : b.size ≡ a.size + 256 * m = first.size in
    let capacity : b.capacity ≡ capacity_after m a.size a.capacity = first.capacity in
    record {
      size = omega (arith, first.size, second.size);
      capacity = second.capacity ∙ ap (λ s. capacity_after n s b.capacity) size ∙ ap (capacity_after n (a.size + 256 * m)) capacity
          ∙ sym (capacity_after-sum m n a.size a.capacity);
    }
