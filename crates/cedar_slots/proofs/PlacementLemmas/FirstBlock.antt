-- A new table: one block, in which the root alone is held.
use Rattle.std.proofs.Common.{◌≡◌, ℕ, ◌+◌, ◌/◌, ◌<◌, ◌≤◌, ◌≤ℤ◌, List, [], ◌∷◌, length, set, replicate, not, cond, eqb, true, int_lt, refl, sym, ap, subst, inl, inr, ◌∙◌, arith, ℤ, pos}
use Rattle.std.proofs.lemmas.Int.{ints}
use Rattle.std.proofs.lemmas.Bool.{cases_eq, cases_lt, ne_eqb, eq-eqb, and_from, and_left, and_right, cond-true, cond-false}
use Rattle.std.proofs.lemmas.List.{get_or_past, get_or-replicate, get_or-set_other, get_or-set_same, length-replicate}
use Rattle.cedar_slots.specs.declared.records.NodeRecord.{NodeRecord}
use Rattle.cedar_slots.specs.declared.records.NInfoRecord.{NInfoRecord}
use Rattle.cedar_slots.specs.Blocks.{blank_block, BlockFields, BlockLink, counts_at, counts_of, HasLists, head_of, ring_of}
use Rattle.cedar_slots.specs.declared.blocks.BlockType.TheVariants.{Open, Closed, Full}
use Rattle.cedar_slots.specs.Places.{Bounded, Counted, FreeBlock, IsNewPlaces, IsSlotLimit, IsTable, PlaceFields, reject_at, Rejects, root_block, Sound, Within}
use Rattle.cedar_slots.specs.Ring.{first_of, Ring}
use Rattle.cedar_slots.specs.Slots.{blank_info, blank_node, check_at, info_at, is_free, FreeRing, SlotLink}
use Rattle.std.proofs.Math.Pow.{pow_mono}
use Rattle.cedar_slots.proofs.RingsLemmas.Ring.{occurs-le-length}
use Rattle.cedar_slots.proofs.RingsLemmas.LinkedSlots.{neg_pos_below}
use Rattle.cedar_slots.proofs.ListsLemmas.ThreeLists.{cases_list}
use Rattle.cedar_slots.proofs.RingsLemmas.FreshBlock.{chain_from, count_from, first_count_from, inside, length-count_from, outside}

pub SlotLink-set_root : (nodes : List NodeRecord) (node : NodeRecord) (a b : ℕ) → 0 < a → 0 < b → SlotLink nodes a b → SlotLink (set nodes 0 node) a b
SlotLink-set_root nodes node a b a_in b_in link = (
  ap (λ (n : NodeRecord). n.check) (get_or-set_other nodes 0 a node blank_node (λ e. absurd (omega arith))) ∙ link.0,
  ap (λ (n : NodeRecord). n.base) (get_or-set_other nodes 0 b node blank_node (λ e. absurd (omega arith))) ∙ link.1,
)

-- all slots of the first block but the root's are free
pub root_block_free : (nodes : List NodeRecord) → ((s : ℕ) → 1 ≤ s → s < 255 → SlotLink nodes s (s + 1)) → SlotLink nodes 255 1 → (s : ℕ) → 1 ≤ s → s < 256 → is_free nodes s ≡ true
root_block_free nodes steps last s p q = and_from _ _ (ap not (ne_eqb s 0 (λ e. omega arith))) (elim (cases_eq s 255) [
  | inl is_last ↦ subst (λ m. int_lt (check_at nodes m) (pos 0) ≡ true) (sym is_last) (ap (λ z. int_lt z (pos 0)) last.0 ∙ neg_pos_below 1 (omega arith))
  | inr not_last ↦ ap (λ z. int_lt z (pos 0)) (steps s p (omega arith)).0 ∙ neg_pos_below (s + 1) (omega arith)
])

pub FreeRing-root : (nodes : List NodeRecord) (infos : List NInfoRecord) → ((s : ℕ) → 1 ≤ s → s < 255 → SlotLink nodes s (s + 1)) → SlotLink nodes 255 1 → ((s : ℕ) → info_at infos s ≡ blank_info) → FreeRing nodes infos 0 (count_from 1 255)
FreeRing-root nodes infos steps last blank = record {
  once = λ s. elim (cases_eq (s / 256) 0) [
    | inl here ↦ elim (cases_eq s 0) [
      | inl root ↦ outside s 1 255 (inl (omega arith)) ∙ sym (cond-false _ 1 0 (and_left _ _ (and_left _ _ (ap not (eq-eqb s 0 root)))))
      | inr other ↦ inside s 1 255 (omega arith) (omega arith) ∙ sym (cond-true _ 1 0 (and_from _ _ (root_block_free nodes steps last s (omega arith) (omega arith)) (eq-eqb _ _ here)))
    ]
    | inr away ↦ outside s 1 255 (inr (omega arith)) ∙ sym (cond-false _ 1 0 (and_right _ _ (ne_eqb _ _ away)))
  ];
  is_linked = chain_from (SlotLink nodes) 1 254 1 steps last;
  cleared = λ s p. blank s;
}

root_num : (n : ℕ) (xs : List ℕ) → length xs ≡ n → ◌≡◌ {A = ℤ} (pos (n + 1)) (pos (length xs + cond (eqb 0 0) 1 0))
root_num n xs len = ap pos (omega (arith, len))

counted_root : (xs : List ℕ) → length xs ≡ 255 → first_of xs ≡ 1 → Counted (counts_of root_block) 0 xs
counted_root xs len first = record { num = root_num 255 xs len; e_head = λ _. ap pos (sym first) }

pub HasLists-new : (blocks : BlockFields) → blocks.records ≡ root_block ∷ [] → blocks.full_head ≡ pos 0 → blocks.closed_head ≡ pos 0 → blocks.open_head ≡ pos 0 → blocks.active ≡ 1 → HasLists blocks
HasLists-new blocks records full closed opened active = (
  λ _. [],
  record {
    rings = record {
      apart = λ b. omega (arith, occurs-le-length b (0 ∷ []));
      is_linked = cases_list (λ k. Ring (BlockLink blocks.records) (ring_of k [])) tt tt (subst (λ rs. BlockLink rs 0 0) (sym records) (refl, refl));
      headed = cases_list (λ k. head_of blocks k ≡ pos 0) opened closed full;
    };
    listed = λ b p q. absurd (omega (arith, active));
    only = λ k b p. absurd (omega (arith, p));
  },
)

pub Sound-new : (table : PlaceFields) → length table.slots.nodes ≡ 256 → length table.slots.infos ≡ 256 → ((s : ℕ) → info_at table.slots.infos s ≡ blank_info) → ((s : ℕ) → 1 ≤ s → s < 255 → SlotLink table.slots.nodes s (s + 1)) → SlotLink table.slots.nodes 255 1 → table.blocks.records ≡ root_block ∷ [] → length table.blocks.records ≡ 1 → HasLists table.blocks → table.blocks.active ≡ 1 → pos 1 ≤ℤ table.blocks.max_trial → Rejects table.reject → Sound table
Sound-new table nodes_len infos_len infos steps last records records_len lists active tried rejects = record {
  shaped = record {
    blocks = record { some = omega (arith, active); active_in = omega (arith, active, records_len); fits = omega (arith, records_len) };
    nodes = omega (arith, nodes_len, records_len);
    infos = omega (arith, nodes_len, infos_len);
  };
  doubled = (0, records_len);
  free = λ b b_in. (
    count_from 1 255,
    subst (λ n. FreeBlock table n (count_from 1 255)) (sym (zero_only b b_in)) (record {
      ring = FreeRing-root table.slots.nodes table.slots.infos steps last infos;
      counted = subst (λ rs. Counted (counts_at rs 0) 0 (count_from 1 255)) (sym records) (counted_root (count_from 1 255) (length-count_from 1 255) (first_count_from 1 255 (omega arith)));
    }),
  );
  lists = lists;
  pruned = record {
    max_trial = tried;
    bounded = λ b b_in. subst (λ n. Bounded table.blocks.max_trial (counts_at table.blocks.records n)) (sym (zero_only b b_in)) (subst (λ rs. Bounded table.blocks.max_trial (counts_at rs 0)) (sym records) (bounded table.blocks.max_trial tried));
    root = ap (λ rs. (counts_at rs 0).trial) records;
  };
  rejects = rejects;
  inactive = record {
    nodes = λ s above. get_or_past table.slots.nodes s blank_node (omega (arith, active, nodes_len));
    infos = λ s above. infos s;
    blocks = λ b above. get_or_past table.blocks.records b blank_block (omega (arith, active, records_len));
  };
}
  where
    zero_only : (b : ℕ) → b < table.blocks.active → b ≡ 0
    zero_only b h = omega (arith, active)

    bounded : (z : ℤ) → pos 1 ≤ℤ z → Bounded z (counts_of root_block)
    bounded z h = record { reject = record { least = omega (arith, ints); most = omega (arith, ints) }; trial = record { least = omega (arith, ints); most = omega (arith, ints) } }

pub rejects_more : (rejects : List ℤ) (n : ℕ) (v : ℤ) → n < length rejects → v ≡ pos (n + 1) → ((i : ℕ) → i < n → reject_at rejects i ≡ pos (i + 1)) → (i : ℕ) → i < n + 1 → reject_at (set rejects n v) i ≡ pos (i + 1)
rejects_more rejects n v inside is sofar i below = elim (cases_eq i n) [
  | inl same ↦ rw same (get_or-set_same rejects n v (pos 1) inside ∙ is)
  | inr other ↦ get_or-set_other rejects n i v (pos 1) other ∙ sofar i (omega arith)
]

pub Rejects-new : (rejects : List ℤ) → length rejects ≡ 257 → ((i : ℕ) → i < 257 → reject_at rejects i ≡ pos (i + 1)) → Rejects rejects
Rejects-new rejects len all = record {
  len = len;
  value = λ i i_in. subst (λ z. Within (pos 1) z (pos (i + 1))) (sym (all i (omega arith))) (record { least = at_least i; most = at_most i });
}
  where
    at_least : (i : ℕ) → pos 1 ≤ℤ pos (i + 1)
    at_least i = omega (arith, ints)

    at_most : (i : ℕ) → pos (i + 1) ≤ℤ pos (i + 1)
    at_most i = omega (arith, ints)

pub infos_blank : (infos : List NInfoRecord) (n : ℕ) → infos ≡ replicate n blank_info → (s : ℕ) → info_at infos s ≡ blank_info
infos_blank infos n is s = ap (λ v. info_at v s) is ∙ elim (cases_lt s n) [
  | inl inside ↦ get_or-replicate n s blank_info blank_info inside
  | inr past ↦ get_or_past (replicate n blank_info) s blank_info (omega (arith, past, length-replicate n blank_info))
]

pub Sound-fresh : (places : PlaceFields) (trials : ℤ) → IsNewPlaces places trials → pos 1 ≤ℤ trials → Sound places
Sound-fresh places trials new tried = Sound-new places new.nodes_len (ap length new.infos ∙ length-replicate 256 blank_info) (infos_blank places.slots.infos 256 new.infos) new.steps new.last new.records (ap length new.records)
    (HasLists-new places.blocks new.records (new.heads Full) (new.heads Closed) (new.heads Open) new.active) new.active
    (subst (λ z. pos 1 ≤ℤ z) (sym new.max_trial) tried)
    (Rejects-new places.reject new.rejects_len (λ i below. new.rejects i (omega arith)))

-- a limit leaves room for the first block
pub limit_least : (slots : ℕ) → IsSlotLimit slots → 256 ≤ slots
limit_least slots limit = omega (arith, limit.power.1, pow_mono {i = 0} {j = limit.power.0} (omega arith))

pub IsTable-new : (slots : ℕ) (places : PlaceFields) (trials : ℤ) → IsSlotLimit slots → Sound places → IsNewPlaces places trials → IsTable slots places
IsTable-new slots places trials limit sound new = record {
  sound = sound;
  limit = limit;
  within = omega (arith, ap length new.records, limit_least slots limit);
}
