-- What the parts of a check say of slots, blocks and reject values together.
use Rattle.std.proofs.Common.{◌≡◌, ℕ, ◌+◌, ◌*◌, ◌<◌, ◌≤◌, ◌≤ℤ◌, List, [], ◌∷◌, length, Bool, cond, eqb, true, false, refl, sym, ap, subst, ◌∙◌, arith, pos}
use Rattle.std.proofs.lemmas.Bool.{and_from, and_parts, cond-true, eq-eqb, eqb-true}
use Rattle.cedar_slots.specs.declared.records.BlockRecord.{BlockRecord}
use Rattle.cedar_slots.specs.Blocks.{block_at, BlockFields, counts_of}
use Rattle.cedar_file.specs.PlaceChecks.{HasRing, HasBlankLabels, free_count, free_here, CountsInRange}
use Rattle.cedar_slots.specs.Places.{Bounded, FreeBlock, PlaceFields}
use Rattle.cedar_slots.specs.Slots.{SlotLink}
use Rattle.cedar_slots.specs.Ring.{first_of, occurs}
use Rattle.cedar_file.proofs.ChecksLemmas.Cycle.{length_all, member_passes, once_each}
use Rattle.cedar_file.proofs.ChecksLemmas.RingRead.{slots_within}
use Rattle.cedar_slots.proofs.RingsLemmas.Ring.{occurs_same}

-- ---- a block's record

pub range_from : (blocks : BlockFields) (b : ℕ) (record' : BlockRecord) → record' ≡ block_at blocks.records b → pos 1 ≤ℤ record'.reject → record'.reject ≤ℤ pos 257 → pos 0 ≤ℤ record'.trial → record'.trial ≤ℤ blocks.max_trial → (b ≡ 0 → record'.trial ≡ pos 0) → CountsInRange blocks b
range_from blocks b record' read some few natural tried root = record {
  bounded = subst (Bounded blocks.max_trial) (ap counts_of read) (record { reject = record { least = some; most = few }; trial = record { least = natural; most = tried } });
  root = λ none. ap (λ (n : BlockRecord). n.trial) (sym read) ∙ root none;
}

-- ---- a block's free slots

pub root-le : (b : ℕ) → cond {A = ℕ} (eqb b 0) 1 0 ≤ 1
root-le b = go (eqb b 0)
  where
    go : (t : Bool) → cond {A = ℕ} t 1 0 ≤ 1
    go true = omega arith
    go false = omega arith

module _ (table : PlaceFields) (b : ℕ) where
  length-free : (xs : List ℕ) → ((s : ℕ) → occurs s xs ≡ cond (free_here table.slots.nodes b s) 1 0) → length xs ≡ free_count table.slots.nodes b
  length-free xs once = length_all (free_here table.slots.nodes b) (256 * b) 256 (slots_within table.slots.nodes b) xs once

  -- as many as the block counts
  pub num_free : (xs : List ℕ) → FreeBlock table b xs → (block_at table.blocks.records b).num ≡ pos (free_count table.slots.nodes b + cond (eqb b 0) 1 0)
  num_free xs block = block.counted.num ∙ ap (λ n. pos (n + cond (eqb b 0) 1 0)) (length-free xs block.ring.once)

  pub none_free : free_count table.slots.nodes b ≡ 0 → (block_at table.blocks.records b).num ≡ pos (free_count table.slots.nodes b + cond (eqb b 0) 1 0) → FreeBlock table b []
  none_free none num = record {
    ring = record {
      once = once_each (free_here table.slots.nodes b) (256 * b) 256 (slots_within table.slots.nodes b) [] (λ s. omega arith) (λ s in_none. absurd (omega arith)) (sym none);
      is_linked = tt;
      cleared = λ s in_none. absurd (omega arith);
    };
    counted = record { num = num ∙ ap (λ n. pos (n + cond (eqb b 0) 1 0)) none; e_head = λ some. absurd (omega arith) };
  }

  pub some_free : (head : ℕ) → HasBlankLabels table.slots b → (block_at table.blocks.records b).num ≡ pos (free_count table.slots.nodes b + cond (eqb b 0) 1 0) → (block_at table.blocks.records b).e_head ≡ pos head → HasRing (SlotLink table.slots.nodes) (free_here table.slots.nodes b) head → (xs : List ℕ) × FreeBlock table b xs
  some_free head cleared num e_head has = (
    has.0,
    record {
      ring = record {
        once = has.1.once;
        is_linked = has.1.is_linked;
        cleared = λ s inside. let here = member_passes (free_here table.slots.nodes b) (256 * b) 256 (slots_within table.slots.nodes b) has.0 has.1.once s inside in cleared s (and_parts _ _ here).0 (eqb-true _ _ (and_parts _ _ here).1);
      };
      counted = record {
        num = num ∙ ap (λ n. pos (n + cond (eqb b 0) 1 0)) (sym (length-free has.0 has.1.once));
        e_head = λ some. e_head ∙ ap pos (sym has.1.begins);
      };
    },
  )

  -- the head of a block that has a free slot
  pub head_free : (xs : List ℕ) → FreeBlock table b xs → 0 < free_count table.slots.nodes b → (head : ℕ) × ((block_at table.blocks.records b).e_head ≡ pos head) × (free_here table.slots.nodes b head ≡ true) × HasRing (SlotLink table.slots.nodes) (free_here table.slots.nodes b) head
  head_free xs block some = (
    first_of xs,
    block.counted.e_head long,
    member_passes (free_here table.slots.nodes b) (256 * b) 256 (slots_within table.slots.nodes b) xs block.ring.once (first_of xs) (stands xs long),
    (xs, record { once = block.ring.once; is_linked = block.ring.is_linked; begins = refl }),
  )
    where
      long : 0 < length xs
      long = omega (arith, some, length-free xs block.ring.once)

      stands : (ys : List ℕ) → 0 < length ys → 0 < occurs (first_of ys) ys
      stands [] none = absurd (omega arith)
      stands (y ∷ ys) many = omega (arith, occurs_same y ys)
