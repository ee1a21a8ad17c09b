-- What a check reads of the rings of lists, and the lists that three walks along them have seen.
use Rattle.std.proofs.Common.{◌≡◌, ℕ, ◌+◌, ◌<◌, ◌≤◌, List, [], ◌∷◌, length, Bool, ◌&&◌, eqb, cond, nat_lt, true, false, refl, sym, ap, subst, inl, inr, ◌∙◌, arith, pos, unsigned_abs}
use Rattle.std.proofs.lemmas.Bool.{and_from, and_parts, and_right, cases_Bool, cases_eq, cond-false, cond-true, false≢true, ne_eqb}
use borrow.Author.Tests.{ltb-true, lt-ltb}
use Rattle.cedar_slots.specs.Blocks.{BlockFields, BlockLink, HasLists, head_of, kind_of, counts_at, next_at, ring_of}
use Rattle.cedar_file.specs.PlaceChecks.{HasList, HasRing, in_ring, ListOf, ring_count, RingOf, same_list}
use Rattle.cedar_slots.specs.declared.blocks.BlockType.{BlockType}
use Rattle.cedar_slots.specs.declared.blocks.BlockType.TheVariants.{Open, Closed, Full}
use Rattle.cedar_slots.specs.Ring.{first_of, occurs, Ring}
use Rattle.cedar_slots.proofs.ListsLemmas.LinkedBlocks.{BlockLink-fixed}
use Rattle.cedar_file.proofs.ChecksLemmas.Cycle.{Circuit, length_all, once_each}
use Rattle.cedar_slots.proofs.ListsLemmas.ThreeLists.{occurs-ring_of}
use Rattle.cedar_slots.proofs.RingsLemmas.Ring.{occurs_other, occurs_same}

-- ---- the ring of a list

abbrev pub next_block : BlockFields → ℕ → ℕ
next_block blocks b = unsigned_abs (next_at blocks.records b)

pub block_step : (blocks : BlockFields) (x y : ℕ) → BlockLink blocks.records x y → next_block blocks x ≡ y
block_step blocks x y link = ap unsigned_abs link.0

module _ (blocks : BlockFields) (list : BlockType) where
  pub in_use : (x : ℕ) → in_ring blocks list x ≡ true → x < blocks.active
  in_use x here = ltb-true _ _ (and_parts _ _ here).0

  pub blocks_within : (x : ℕ) → in_ring blocks list x ≡ true → (0 ≤ x) × (x < 0 + blocks.active)
  blocks_within x here = let low = in_use x here in (omega arith, omega (arith, low))

-- the ring of a list
abbrev pub block_circuit : BlockFields → BlockType → Circuit
block_circuit blocks list = record {
  next = next_block blocks;
  Link = BlockLink blocks.records;
  test = in_ring blocks list;
  low = 0;
  m = blocks.active;
  steps = block_step blocks;
  fixed = BlockLink-fixed blocks.records;
  within = blocks_within blocks list;
}

-- ---- the full list, whose ring begins at block 0

module _ (blocks : BlockFields) (some : 0 < blocks.active) where
  pub root_in_full : in_ring blocks Full 0 ≡ true
  root_in_full = and_from _ _ (lt-ltb 0 blocks.active some) refl

  pub full_from_cycle : next_at blocks.records 0 ≡ head_of blocks Full → HasRing (BlockLink blocks.records) (in_ring blocks Full) 0 → HasList blocks Full
  full_from_cycle head has = go has.0 has.1
    where
      successor : (xs : List ℕ) → Ring (BlockLink blocks.records) (0 ∷ xs) → next_at blocks.records 0 ≡ pos (first_of xs)
      successor [] linked = linked.0
      successor (x ∷ xs) linked = linked.0.0

      go : (xs : List ℕ) → RingOf (BlockLink blocks.records) (in_ring blocks Full) 0 xs → HasList blocks Full
      go [] ring = absurd (omega (arith, ring.once 0, cond-true {A = ℕ} (in_ring blocks Full 0) 1 0 root_in_full))
      go (x ∷ xs) ring = (
        xs,
        record {
          once = subst (λ n. (b : ℕ) → occurs b (n ∷ xs) ≡ cond (in_ring blocks Full b) 1 0) ring.begins ring.once;
          is_linked = subst (λ n. Ring (BlockLink blocks.records) (n ∷ xs)) ring.begins ring.is_linked;
          headed = sym head ∙ successor xs (subst (λ n. Ring (BlockLink blocks.records) (n ∷ xs)) ring.begins ring.is_linked);
        },
      )

  pub cycle_from_full : (xs : List ℕ) → ListOf blocks Full xs → HasRing (BlockLink blocks.records) (in_ring blocks Full) 0 × (next_at blocks.records 0 ≡ head_of blocks Full)
  cycle_from_full xs full = ((0 ∷ xs, record { once = full.once; is_linked = full.is_linked; begins = refl }), successor xs full.is_linked ∙ sym full.headed)
    where
      successor : (xs : List ℕ) → Ring (BlockLink blocks.records) (0 ∷ xs) → next_at blocks.records 0 ≡ pos (first_of xs)
      successor [] linked = linked.0
      successor (x ∷ xs) linked = linked.0.0

-- ---- the closed and the open list

ring_is_list : (list : BlockType) → (list ≡ Full → ⊥) → (xs : List ℕ) → ring_of list xs ≡ xs
ring_is_list Open other xs = refl
ring_is_list Closed other xs = refl
ring_is_list Full other xs = absurd (other refl)

module _ (blocks : BlockFields) (list : BlockType) (other : list ≡ Full → ⊥) where
  pub list_from_cycle : (first : ℕ) → head_of blocks list ≡ pos first → HasRing (BlockLink blocks.records) (in_ring blocks list) first → HasList blocks list
  list_from_cycle first head has = (
    has.0,
    record {
      once = λ b. ap (occurs b) (ring_is_list list other has.0) ∙ has.1.once b;
      is_linked = subst (Ring (BlockLink blocks.records)) (sym (ring_is_list list other has.0)) has.1.is_linked;
      headed = head ∙ ap pos (sym has.1.begins);
    },
  )

  pub empty_list : ring_count blocks list ≡ 0 → head_of blocks list ≡ pos 0 → ListOf blocks list []
  empty_list none head = record {
    once = λ b. ap (occurs b) (ring_is_list list other []) ∙ once_each (in_ring blocks list) 0 blocks.active (blocks_within blocks list) [] (λ s. omega arith) (λ s in_none. absurd (omega arith)) (sym none) b;
    is_linked = subst (Ring (BlockLink blocks.records)) (sym (ring_is_list list other [])) tt;
    headed = head;
  }

  module _ (xs : List ℕ) (of : ListOf blocks list xs) where
    once_in_list : (b : ℕ) → occurs b xs ≡ cond (in_ring blocks list b) 1 0
    once_in_list b = ap (occurs b) (sym (ring_is_list list other xs)) ∙ of.once b

    length-list : length xs ≡ ring_count blocks list
    length-list = length_all (in_ring blocks list) 0 blocks.active (blocks_within blocks list) xs once_in_list

    pub head_of_empty : ring_count blocks list ≡ 0 → head_of blocks list ≡ pos 0
    head_of_empty none = of.headed ∙ ap pos (go xs (length-list ∙ none))
      where
        go : (ys : List ℕ) → length ys ≡ 0 → first_of ys ≡ 0
        go [] none = refl
        go (y ∷ ys) none = absurd (omega arith)

    -- the head of a list that has a block
    pub head_here : 0 < ring_count blocks list → (first : ℕ) × (head_of blocks list ≡ pos first) × (in_ring blocks list first ≡ true) × HasRing (BlockLink blocks.records) (in_ring blocks list) first
    head_here some = (first_of xs, of.headed, passes, (xs, record { once = once_in_list; is_linked = subst (Ring (BlockLink blocks.records)) (ring_is_list list other xs) of.is_linked; begins = refl }))
      where
        stands : (ys : List ℕ) → 0 < length ys → 0 < occurs (first_of ys) ys
        stands [] some = absurd (omega arith)
        stands (y ∷ ys) some = omega (arith, occurs_same y ys)

        passes : in_ring blocks list (first_of xs) ≡ true
        passes = elim (cases_Bool (in_ring blocks list (first_of xs))) [
          | inl holds ↦ holds
          | inr fails ↦ absurd (omega (arith, stands xs (omega (arith, length-list, some)), once_in_list (first_of xs), cond-false {A = ℕ} (in_ring blocks list (first_of xs)) 1 0 fails))
        ]

-- ---- the three lists together

same_list-true : (j k : BlockType) → same_list j k ≡ true → j ≡ k
same_list-true Open Open h = refl
same_list-true Open Closed h = absurd (false≢true h)
same_list-true Open Full h = absurd (false≢true h)
same_list-true Closed Open h = absurd (false≢true h)
same_list-true Closed Closed h = refl
same_list-true Closed Full h = absurd (false≢true h)
same_list-true Full Open h = absurd (false≢true h)
same_list-true Full Closed h = absurd (false≢true h)
same_list-true Full Full h = refl

same_list_refl : (k : BlockType) → same_list k k ≡ true
same_list_refl Open = refl
same_list_refl Closed = refl
same_list_refl Full = refl

module _ (blocks : BlockFields) where
  -- a block is in one ring at most
  one_ring : (b : ℕ) → cond {A = ℕ} (in_ring blocks Full b) 1 0 + cond (in_ring blocks Closed b) 1 0 + cond (in_ring blocks Open b) 1 0 ≤ 1
  one_ring b = go (nat_lt b blocks.active) (eqb b 0) (kind_of blocks.max_trial (counts_at blocks.records b))
    where
      go : (used root : Bool) (k : BlockType) → cond {A = ℕ} (used && cond root true (same_list k Full)) 1 0 + cond (used && cond root false (same_list k Closed)) 1 0 + cond (used && cond root false (same_list k Open)) 1 0 ≤ 1
      go false root k = omega arith
      go true true k = omega arith
      go true false Open = omega arith
      go true false Closed = omega arith
      go true false Full = omega arith

  in_own_ring : (b : ℕ) → 0 < b → b < blocks.active → in_ring blocks (kind_of blocks.max_trial (counts_at blocks.records b)) b ≡ true
  in_own_ring b some low = and_from _ _ (lt-ltb b blocks.active low) (cond-false _ _ _ (ne_eqb b 0 (λ none. absurd (omega arith))) ∙ same_list_refl (kind_of blocks.max_trial (counts_at blocks.records b)))

  own_ring : (list : BlockType) (b : ℕ) → 0 < b → in_ring blocks list b ≡ true → kind_of blocks.max_trial (counts_at blocks.records b) ≡ list
  own_ring list b some here = same_list-true _ list (sym (cond-false _ _ _ (ne_eqb b 0 (λ none. absurd (omega arith)))) ∙ (and_parts _ _ here).1)

  occurs_later : (list : BlockType) (b : ℕ) (xs : List ℕ) → 0 < b → occurs b (ring_of list xs) ≡ occurs b xs
  occurs_later Open b xs some = refl
  occurs_later Closed b xs some = refl
  occurs_later Full b xs some = occurs_other b 0 xs (λ none. absurd (omega arith))

  -- block 0 is no member
  not_root : (list : BlockType) (xs : List ℕ) → ListOf blocks list xs → occurs 0 xs ≡ 0
  not_root Open xs of = of.once 0 ∙ cond-false _ 1 0 (and_right _ _ refl)
  not_root Closed xs of = of.once 0 ∙ cond-false _ 1 0 (and_right _ _ refl)
  not_root Full xs of = omega (arith, of.once 0, cond_le (in_ring blocks Full 0))
    where
      cond_le : (t : Bool) → cond {A = ℕ} t 1 0 ≤ 1
      cond_le true = omega arith
      cond_le false = omega arith

  pub lists_from : ((list : BlockType) → HasList blocks list) → HasLists blocks
  lists_from each = (
    λ list. (each list).0,
    record {
      rings = record {
        apart = λ b. omega (arith, one_ring b, (each Full).1.once b, (each Closed).1.once b, (each Open).1.once b);
        is_linked = λ list. (each list).1.is_linked;
        headed = λ list. (each list).1.headed;
      };
      listed = λ b some low.
          let k = kind_of blocks.max_trial (counts_at blocks.records b) in
          sym (occurs_later k b (each k).0 some) ∙ (each k).1.once b ∙ cond-true _ 1 0 (in_own_ring b some low);
      only = λ list b inside.
          let of = (each list).1 in
          let some : 0 < b = elim (cases_eq b 0) [
            | inl none ↦ absurd (omega (arith, inside, subst (λ n. occurs n (each list).0 ≡ 0) (sym none) (not_root list (each list).0 of)))
            | inr other ↦ omega arith
          ] in
          let here : in_ring blocks list b ≡ true = elim (cases_Bool (in_ring blocks list b)) [
            | inl holds ↦ holds
            | inr fails ↦ absurd (omega (arith, inside, occurs-ring_of list (each list).0 b, of.once b, cond-false {A = ℕ} (in_ring blocks list b) 1 0 fails))
          ] in
          (some, in_use blocks list b here, own_ring list b some here);
    },
  )

  module _ (some : 0 < blocks.active) (has : HasLists blocks) where
    once_at_root : (list : BlockType) → occurs 0 (ring_of list (has.0 list)) ≡ cond (in_ring blocks list 0) 1 0
    once_at_root Open = omega (arith, has.1.rings.apart 0, cond-false {A = ℕ} (in_ring blocks Open 0) 1 0 (and_right _ _ refl))
    once_at_root Closed = omega (arith, has.1.rings.apart 0, cond-false {A = ℕ} (in_ring blocks Closed 0) 1 0 (and_right _ _ refl))
    once_at_root Full = omega (arith, has.1.rings.apart 0, cond-true {A = ℕ} (in_ring blocks Full 0) 1 0 (root_in_full blocks some))

    once_later : (list : BlockType) (b : ℕ) → 0 < b → occurs b (ring_of list (has.0 list)) ≡ cond (in_ring blocks list b) 1 0
    once_later list b later = elim (cases_Bool (in_ring blocks list b)) [
      | inl holds ↦ occurs_later list b (has.0 list) later ∙ subst (λ k. occurs b (has.0 k) ≡ 1) (own_ring list b later holds) (has.1.listed b later (in_use blocks list b holds)) ∙ sym (cond-true _ 1 0 holds)
      | inr fails ↦ occurs_later list b (has.0 list) later ∙ absent fails ∙ sym (cond-false _ 1 0 fails)
    ]
      where
        absent : in_ring blocks list b ≡ false → occurs b (has.0 list) ≡ 0
        absent fails = elim (cases_eq (occurs b (has.0 list)) 0) [
          | inl none ↦ none
          | inr inside ↦
              let is = has.1.only list b (omega arith) in
              absurd (false≢true (sym fails ∙ subst (λ k. in_ring blocks k b ≡ true) is.2 (in_own_ring b is.0 is.1)))
        ]

    pub list_from : (list : BlockType) → HasList blocks list
    list_from list = (
      has.0 list,
      record {
        once = λ b. elim (cases_eq b 0) [
          | inl root ↦ subst (λ n. occurs n (ring_of list (has.0 list)) ≡ cond (in_ring blocks list n) 1 0) (sym root) (once_at_root list)
          | inr later ↦ once_later list b (omega arith)
        ];
        is_linked = has.1.rings.is_linked list;
        headed = has.1.rings.headed list;
      },
    )
