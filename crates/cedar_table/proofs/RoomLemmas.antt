-- How many blocks a table has once more are in use, and what a table represents that has grown.
use Rattle.std.proofs.Common.{◌≡◌, ◌⊎◌, ℕ, zero, suc, ◌+◌, ◌*◌, ◌^◌, ◌==◌, ◌<◌, ◌≤◌, inl, inr, cond, length, negsuc, nat_lt, None, refl, ap, subst, sym, ◌∙◌, arith}
use Rattle.std.proofs.lemmas.Bool.{cases_eq, cond-false, cond-true, eq-eqb, ne_eqb}
use Rattle.cedar_slots.specs.Places.{Grown, IsPowerOfTwo, IsTable, PlaceFields}
use Rattle.cedar_slots.proofs.PlacementLemmas.Growth.{double_within, power-doubled}
use Rattle.cedar_model.specs.Edit.Steps.{blocks_after}
use Rattle.cedar_model.specs.Meaning.Marks.{marks_below, marks}
use Rattle.cedar_model.specs.Meaning.WellFormed.{cells_in, IsWellFormed, tree_of}
use Rattle.cedar_model.specs.Meaning.StandsFor.{HoldsTree}
use Rattle.cedar_model.specs.Table.Cells.{Cells, cells_of}
use Rattle.cedar_model.specs.Table.Layouts.{LayoutKind, reading}
use Rattle.cedar_model.specs.Table.TableFields.{Fields, SameSettings, size_of}
use Rattle.cedar_model.proofs.UpdateLemmas.Ending.{tree_kept}

-- ---- how many blocks there are once n more are in use

-- whether all blocks are in use, and what one more does then
all_or_not : (a c : ℕ) → ((a ≡ c) × (cond (a == c) (2 * c) c ≡ 2 * c)) ⊎ ((a ≡ c → ⊥) × (cond (a == c) (2 * c) c ≡ c))
all_or_not a c = elim (cases_eq a c) [
  | inl e ↦ inl (e, cond-true {A = ℕ} (a == c) (2 * c) c (eq-eqb a c e))
  | inr other ↦ inr (other, cond-false {A = ℕ} (a == c) (2 * c) c (ne_eqb a c other))
]

-- while they have room, no more
pub blocks_spare : (n a c : ℕ) → a + n ≤ c → blocks_after n a c ≡ c
unfolding blocks_after
blocks_spare zero a c room = refl
blocks_spare (suc n) a c room = elim (all_or_not a c) [
  | inl all ↦ absurd (omega (arith, all.0))
  | inr some ↦ ap (blocks_after n (a + 1)) some.1 ∙ blocks_spare n (a + 1) c (omega arith)
]

-- where they have no room, as many as if there were twice as many now
pub blocks_doubled : (n a c : ℕ) → a ≤ c → 0 < c → c < a + n → blocks_after n a c ≡ blocks_after n a (2 * c)
unfolding blocks_after
blocks_doubled zero a c active some more = absurd (omega arith)
blocks_doubled (suc n) a c active some more =
    let twice : cond (a == 2 * c) (2 * (2 * c)) (2 * c) ≡ 2 * c = cond-false {A = ℕ} (a == 2 * c) (2 * (2 * c)) (2 * c) (ne_eqb a (2 * c) (λ e. absurd (omega arith))) in
    elim (all_or_not a c) [
      | inl all ↦ ap (blocks_after n (a + 1)) (all.1 ∙ sym twice)
      | inr part ↦
          let fewer : a + 1 ≤ c = less_still a c active part.0 in
          ap (blocks_after n (a + 1)) part.1 ∙ blocks_doubled n (a + 1) c fewer some (omega arith) ∙ ap (blocks_after n (a + 1)) (sym twice)
    ]
  where
    less_still : (a c : ℕ) → a ≤ c → (a ≡ c → ⊥) → a + 1 ≤ c
    less_still a c active other = elim (cases_eq a c) [
      | inl e ↦ absurd (other e)
      | inr apart ↦ omega (arith, apart)
    ]

-- a power of two, if it was one
pub blocks_power : (n a c : ℕ) → IsPowerOfTwo c → IsPowerOfTwo (blocks_after n a c)
unfolding blocks_after
blocks_power zero a c power = power
blocks_power (suc n) a c power = elim (all_or_not a c) [
  | inl all ↦ blocks_power n (a + 1) _ (power-doubled c _ power all.1)
  | inr part ↦ blocks_power n (a + 1) _ (subst IsPowerOfTwo (sym part.1) power)
]

-- within a power of two that has room for them
pub blocks_within : (n a c k : ℕ) → IsPowerOfTwo c → c ≤ 2 ^ k → a + n ≤ 2 ^ k → blocks_after n a c ≤ 2 ^ k
unfolding blocks_after
blocks_within zero a c k power less room = less
blocks_within (suc n) a c k power less room = elim (all_or_not a c) [
  | inl all ↦
      let below : 2 ^ power.0 < 2 ^ k = omega (arith, all.0, power.1) in
      let twice : cond (a == c) (2 * c) c ≤ 2 ^ k = omega (arith, all.1, power.1, double_within power.0 k below) in
      blocks_within n (a + 1) _ k (power-doubled c _ power all.1) twice (omega arith)
  | inr part ↦ blocks_within n (a + 1) _ k (subst IsPowerOfTwo (sym part.1) power) (omega (arith, part.1)) (omega arith)
]

-- room for all of them
pub blocks_enough : (n a c : ℕ) → a ≤ c → 0 < c → a + n ≤ blocks_after n a c
unfolding blocks_after
blocks_enough zero a c active some = omega arith
blocks_enough (suc n) a c active some = elim (all_or_not a c) [
  | inl all ↦
      let later : a + 1 + n ≤ blocks_after n (a + 1) (cond (a == c) (2 * c) c) = blocks_enough n (a + 1) _ (omega (arith, all.0, all.1)) (omega (arith, all.1)) in
      omega arith
  | inr part ↦
      let fewer : a + 1 ≤ c = elim (cases_eq a c) [ inl e ↦ absurd (part.0 e) | inr apart ↦ omega (arith, apart) ] in
      let later : a + 1 + n ≤ blocks_after n (a + 1) (cond (a == c) (2 * c) c) = blocks_enough n (a + 1) _ (omega (arith, part.1)) (omega (arith, part.1)) in
      omega arith
]

-- within the limit of slots, if that has room for them
pub room_within : (slots n : ℕ) (places : PlaceFields) → IsTable slots places → 256 * places.blocks.active + 256 * n ≤ slots → 256 * blocks_after n places.blocks.active (length places.blocks.records) ≤ slots
room_within slots n places table room =
    let k : ℕ = table.limit.power.0 in
    let limit : slots ≡ 256 * 2 ^ k = table.limit.power.1 in
    let most : blocks_after n places.blocks.active (length places.blocks.records) ≤ 2 ^ k =
    blocks_within n places.blocks.active (length places.blocks.records) k table.sound.doubled (omega (arith, table.within)) (omega arith) in
    omega arith

-- ---- a table that has grown

pub cells_grown : (layout : LayoutKind) (a b : PlaceFields) → Grown a b → cells_of layout b ≡ cells_of layout a
cells_grown layout a b grown = λ i. record {
  base = λ x. (grown.nodes x i).base;
  stored = λ x. reading layout (grown.nodes x i).base;
  check = λ x. cond (nat_lt x (256 * grown.active i)) (grown.nodes x i).check (negsuc 0);
  sibling = λ x. (grown.infos x i).sibling;
  child = λ x. (grown.infos x i).child;
}

module _ (slots : ℕ) (T T' : Fields) (well : IsWellFormed slots T) (table : IsTable slots T'.places) (grown : Grown T.places T'.places) (layout : T'.layout ≡ T.layout) (settings : SameSettings T T') where
  same_cells : cells_in T' ≡ cells_in T
  same_cells = ap (λ kind. cells_of kind T'.places) layout ∙ cells_grown T.layout T.places T'.places grown

  same_size : size_of T' ≡ size_of T
  same_size = ap (λ n. 256 * n) grown.active

  holds_still : HoldsTree (size_of T') (cells_in T') (tree_of T).children
  holds_still = subst (λ n. HoldsTree n (cells_in T') (tree_of T).children) (sym same_size) (subst (λ C. HoldsTree (size_of T) C (tree_of T).children) (sym same_cells) well.stands)

  kept : IsWellFormed slots T' × (tree_of T' ≡ tree_of T)
  kept = tree_kept slots T T' well table (ap (λ (C : Cells). C.check 0) same_cells) holds_still settings

  pub grown_well_formed : IsWellFormed slots T'
  grown_well_formed = kept.0

  pub grown_tree : tree_of T' ≡ tree_of T
  grown_tree = kept.1

  pub grown_marks : marks T' ≡ marks T
  grown_marks = λ i. record { number = None; children = marks_below (same_cells i) 0 (kept.1 i).children }
