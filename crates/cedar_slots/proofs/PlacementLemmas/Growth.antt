-- A table that has grown, and one with a further block in use.
use Rattle.std.proofs.Common.{◌≡◌, ℕ, suc, ◌+◌, ◌-◌, ◌*◌, ◌/◌, ◌^◌, ◌<◌, ◌≤◌, ◌≤ℤ◌, ◌⊎◌, ◌++◌, List, length, length-append, get_or, replicate, cond, eqb, refl, sym, ap, subst, inl, inr, ◌∙◌, arith, ℤ, pos, true}
use Rattle.std.proofs.lemmas.Int.{ints}
use Rattle.std.proofs.lemmas.Bool.{cases_eq, cases_lt, cond-false, ne_eqb}
use Rattle.std.proofs.lemmas.List.{get_or_append_left, get_or-append_right, get_or-replicate, get_or_past, length-replicate}
use Rattle.std.proofs.Math.Nat.{pow-suc}
use Rattle.std.proofs.Math.Pow.{pow_mono}
use Rattle.cedar_slots.specs.declared.records.BlockRecord.{BlockRecord}
use Rattle.cedar_slots.specs.declared.blocks.Counts.{Counts}
use Rattle.cedar_slots.specs.Places.{AddsBlock, Bounded, Counted, FreeBlock, Grown, IsPowerOfTwo, IsSlotLimit, PlaceFields, Rejects, room_for_one, Shaped, Sound}
use Rattle.cedar_slots.specs.Ring.{first_of, occurs}
use Rattle.cedar_slots.specs.Slots.{info_at, is_free, node_record_at, FreeRing, SlotLink}
use Rattle.cedar_slots.specs.Blocks.{counts_at, counts_of, fresh_counts, HasLists, kind_of, SameFrom}
use Rattle.cedar_slots.proofs.RingsLemmas.LinkedSlots.{FreeRing-frame, member_free}
use Rattle.cedar_slots.proofs.ListsLemmas.BlockMoved.{ListRings-kept}
use Rattle.cedar_slots.proofs.RingsLemmas.FreshBlock.{beside, block_range, count_from, first_count_from, FreeRing-fresh, inside, length-count_from}

-- ---- lists that grow by their default

pub grown_same : {X : Type 0} (xs ys : List X) (m : ℕ) (d : X) → ys ≡ xs ++ replicate m d → (i : ℕ) → get_or ys i d ≡ get_or xs i d
grown_same xs ys m d is i =
    ap (λ zs. get_or zs i d) is ∙ elim (cases_lt i (length xs)) [
      | inl inside ↦ get_or_append_left xs (replicate m d) d i inside
      | inr past ↦ get_or-append_right xs (replicate m d) (length xs) i d refl past ∙ all_blank m ∙ sym (get_or_past xs i d past)
    ]
  where
    all_blank : (m : ℕ) → get_or (replicate m d) (i - length xs) d ≡ d
    all_blank m = elim (cases_lt (i - length xs) m) [
      | inl inside ↦ get_or-replicate m (i - length xs) d d inside
      | inr past ↦ get_or_past (replicate m d) (i - length xs) d (omega (arith, past, length-replicate m d))
    ]

pub length-grown : {X : Type 0} (xs ys : List X) (m : ℕ) (d : X) → ys ≡ xs ++ replicate m d → length ys ≡ length xs + m
length-grown xs ys m d is = ap length is ∙ length-append xs (replicate m d) ∙ ap (λ n. length xs + n) (length-replicate m d)

-- a power of two below another one can be doubled
pub double_within : (k m : ℕ) → 2 ^ k < 2 ^ m → 2 * 2 ^ k ≤ 2 ^ m
double_within k m h = elim (cases_lt k m) [
  | inl below ↦ omega (arith, pow_mono {i = suc k} {j = m} (omega arith), pow-suc 2 k)
  | inr above ↦ absurd (omega (arith, h, pow_mono {i = m} {j = k} (omega arith)))
]

pub doubled_within : (old : PlaceFields) (slots : ℕ) → Shaped old → IsPowerOfTwo (length old.blocks.records) → IsSlotLimit slots → 256 * old.blocks.active < slots → (old.blocks.active < length old.blocks.records → ⊥) → 256 * (2 * length old.blocks.records) ≤ slots
doubled_within old slots shaped doubled limit below full =
    let is : length old.blocks.records ≡ 2 ^ doubled.0 = doubled.1 in
    let limit_is : slots ≡ 256 * 2 ^ limit.power.0 = limit.power.1 in
    let active_in = shaped.blocks.active_in in
    let less : 2 ^ doubled.0 < 2 ^ limit.power.0 = omega arith in
    omega (arith, double_within doubled.0 limit.power.0 less)

pub power-doubled : (n m : ℕ) → IsPowerOfTwo n → m ≡ 2 * n → IsPowerOfTwo m
power-doubled n m power is = (suc power.0, omega (arith, is, power.1, pow-suc 2 power.0))

-- ---- a table that has grown

pub Sound-grown : (old new : PlaceFields) → Sound old → Grown old new → Shaped new → IsPowerOfTwo (length new.blocks.records) → Sound new
Sound-grown old new sound grown shaped doubled =
    let counts : (b : ℕ) → counts_at new.blocks.records b ≡ counts_at old.blocks.records b = λ b. ap counts_of (grown.records b) in
    let kinds : (b : ℕ) → kind_of new.blocks.max_trial (counts_at new.blocks.records b) ≡ kind_of old.blocks.max_trial (counts_at old.blocks.records b) = λ b. ap (λ z. kind_of z (counts_at new.blocks.records b)) grown.max_trial ∙ ap (kind_of old.blocks.max_trial) (counts b) in
    let lists = sound.lists.0 in
    let held = sound.lists.1 in
    record {
      shaped = shaped;
      doubled = doubled;
      free = λ b b_in. let kept = sound.free b (subst (λ n. b < n) grown.active b_in) in (
        kept.0,
        record {
          ring = FreeRing-frame old.slots.nodes new.slots.nodes old.slots.infos new.slots.infos b kept.0 (λ s _. grown.nodes s) (λ s _. grown.infos s) kept.1.ring;
          counted = subst (λ n. Counted n b kept.0) (sym (counts b)) kept.1.counted;
        },
      );
      lists = (
        lists,
        record {
          rings = ListRings-kept old.blocks new.blocks lists (λ b. (ap (λ (r : BlockRecord). r.next) (grown.records b), ap (λ (r : BlockRecord). r.prev) (grown.records b))) grown.heads held.rings;
          listed = λ b p q. subst (λ k. occurs b (lists k) ≡ 1) (sym (kinds b)) (held.listed b p (subst (λ n. b < n) grown.active q));
          only = λ k b p. let r = held.only k b p in (r.0, subst (λ n. b < n) (sym grown.active) r.1, kinds b ∙ r.2);
        },
      );
      pruned = record {
        max_trial = subst (λ z. pos 1 ≤ℤ z) (sym grown.max_trial) sound.pruned.max_trial;
        bounded = λ b b_in. subst (λ z. Bounded z (counts_at new.blocks.records b)) (sym grown.max_trial) (subst (Bounded old.blocks.max_trial) (sym (counts b)) (sound.pruned.bounded b (subst (λ n. b < n) grown.active b_in)));
        root = ap (λ (n : Counts). n.trial) (counts 0) ∙ sound.pruned.root;
      };
      rejects = subst Rejects (sym grown.reject) sound.rejects;
      inactive = record {
        nodes = λ s above. grown.nodes s ∙ sound.inactive.nodes s (omega (arith, grown.active));
        infos = λ s above. grown.infos s ∙ sound.inactive.infos s (omega (arith, grown.active));
        blocks = λ b above. grown.records b ∙ sound.inactive.blocks b (omega (arith, grown.active));
      };
    }

-- ---- a table with a further block in use

pub record Activated (old new : PlaceFields) : Type 0 where
  pub steps : (s : ℕ) → 256 * old.blocks.active ≤ s → s < 256 * old.blocks.active + 255 → SlotLink new.slots.nodes s (s + 1)
  pub last : SlotLink new.slots.nodes (256 * old.blocks.active + 255) (256 * old.blocks.active)
  pub outside : (s : ℕ) → (s < 256 * old.blocks.active) ⊎ (256 * old.blocks.active + 256 ≤ s) → node_record_at new.slots.nodes s ≡ node_record_at old.slots.nodes s
  pub infos : new.slots.infos ≡ old.slots.infos
  pub nodes_len : length new.slots.nodes ≡ length old.slots.nodes
  pub lists : HasLists new.blocks
  pub active : new.blocks.active ≡ old.blocks.active + 1
  pub made : counts_at new.blocks.records old.blocks.active ≡ fresh_counts old.blocks.active
  pub others : (b : ℕ) → (b ≡ old.blocks.active → ⊥) → counts_at new.blocks.records b ≡ counts_at old.blocks.records b
  pub idle : SameFrom (old.blocks.active + 1) old.blocks.records new.blocks.records
  pub len : length new.blocks.records ≡ length old.blocks.records
  pub max_trial : new.blocks.max_trial ≡ old.blocks.max_trial
  pub reject : new.reject ≡ old.reject

fresh_num : (n : ℕ) (xs : List ℕ) (b : ℕ) → 0 < b → length xs ≡ n → ◌≡◌ {A = ℤ} (pos n) (pos (length xs + cond (eqb b 0) 1 0))
fresh_num n xs b positive len = let none : cond {A = ℕ} (eqb b 0) 1 0 ≡ 0 = cond-false {A = ℕ} (eqb b 0) 1 0 (ne_eqb b 0 (λ e. absurd (omega arith))) in
    ap pos (omega (arith, len, none))

counted_fresh : (counts : Counts) (n : ℕ) (xs : List ℕ) (b : ℕ) → 0 < b → length xs ≡ n → first_of xs ≡ 256 * b → counts.num ≡ pos n → counts.e_head ≡ pos (256 * b) → Counted counts b xs
counted_fresh counts n xs b positive len first num e_head = record {
  num = num ∙ fresh_num n xs b positive len;
  e_head = λ _. e_head ∙ ap pos (sym first);
}

module _ (old new : PlaceFields) (sound : Sound old) (room : old.blocks.active < length old.blocks.records) (made : Activated old new) where
  nodes_outside : (s : ℕ) → (s / 256 ≡ old.blocks.active → ⊥) → node_record_at new.slots.nodes s ≡ node_record_at old.slots.nodes s
  nodes_outside s away = made.outside s (beside old.blocks.active s away)

  infos_same : (s : ℕ) → info_at new.slots.infos s ≡ info_at old.slots.infos s
  infos_same s = ap (λ v. info_at v s) made.infos

  fresh_ring : FreeRing new.slots.nodes new.slots.infos old.blocks.active (count_from (256 * old.blocks.active) 256)
  fresh_ring = FreeRing-fresh new.slots.nodes new.slots.infos old.blocks.active sound.shaped.blocks.some made.steps made.last (λ s here. infos_same s ∙ sound.inactive.infos s (omega arith))

  fresh_block : FreeBlock new old.blocks.active (count_from (256 * old.blocks.active) 256)
  fresh_block = record {
    ring = fresh_ring;
    counted = counted_fresh (counts_at new.blocks.records old.blocks.active) 256 (count_from (256 * old.blocks.active) 256) old.blocks.active sound.shaped.blocks.some
        (length-count_from (256 * old.blocks.active) 256) (first_count_from (256 * old.blocks.active) 256 (omega arith))
        (ap (λ (n : Counts). n.num) made.made) (ap (λ (n : Counts). n.e_head) made.made);
  }

  pub added_free : (s : ℕ) → s / 256 ≡ old.blocks.active → is_free new.slots.nodes s ≡ true
  added_free s here = (member_free new.slots.nodes new.slots.infos old.blocks.active (count_from (256 * old.blocks.active) 256) fresh_ring s (positive _ (let r = block_range s old.blocks.active here in inside s (256 * old.blocks.active) 256 r.0 r.1))).0
    where
      positive : (n : ℕ) → n ≡ 1 → 0 < n
      positive n e = omega arith

  pub Sound-added : Sound new
  Sound-added = record {
    shaped = record {
      blocks = record { some = omega (arith, made.active); active_in = omega (arith, made.active, made.len); fits = omega (arith, made.len, sound.shaped.blocks.fits) };
      nodes = omega (arith, made.nodes_len, made.len, sound.shaped.nodes);
      infos = omega (arith, ap length made.infos, made.nodes_len, sound.shaped.infos);
    };
    doubled = (sound.doubled.0, made.len ∙ sound.doubled.1);
    free = λ b b_in. elim (cases_eq b old.blocks.active) [
      | inl same ↦ (count_from (256 * old.blocks.active) 256, subst (λ n. FreeBlock new n (count_from (256 * old.blocks.active) 256)) (sym same) fresh_block)
      | inr other ↦ let kept = sound.free b (omega (arith, made.active)) in (
        kept.0,
        record {
          ring = FreeRing-frame old.slots.nodes new.slots.nodes old.slots.infos new.slots.infos b kept.0 (λ s here. nodes_outside s (λ there. other (sym here ∙ there))) (λ s _. infos_same s) kept.1.ring;
          counted = subst (λ n. Counted n b kept.0) (sym (made.others b other)) kept.1.counted;
        },
      )
    ];
    lists = made.lists;
    pruned = record {
      max_trial = subst (λ z. pos 1 ≤ℤ z) (sym made.max_trial) sound.pruned.max_trial;
      bounded = λ b b_in. elim (cases_eq b old.blocks.active) [
        | inl same ↦ subst (λ n. Bounded new.blocks.max_trial (counts_at new.blocks.records n)) (sym same) (subst (Bounded new.blocks.max_trial) (sym made.made) (bounded_fresh new.blocks.max_trial old.blocks.active (subst (λ z. pos 1 ≤ℤ z) (sym made.max_trial) sound.pruned.max_trial)))
        | inr other ↦ subst (λ z. Bounded z (counts_at new.blocks.records b)) (sym made.max_trial) (subst (Bounded old.blocks.max_trial) (sym (made.others b other)) (sound.pruned.bounded b (omega (arith, made.active))))
      ];
      root = ap (λ (n : Counts). n.trial) (made.others 0 (λ same. absurd (omega (arith, sound.shaped.blocks.some)))) ∙ sound.pruned.root;
    };
    rejects = subst Rejects (sym made.reject) sound.rejects;
    inactive = record {
      nodes = λ s above. nodes_outside s (λ here. absurd (omega (arith, made.active))) ∙ sound.inactive.nodes s (omega (arith, made.active));
      infos = λ s above. infos_same s ∙ sound.inactive.infos s (omega (arith, made.active));
      blocks = λ b above. made.idle b (omega (arith, made.active)) ∙ sound.inactive.blocks b (omega (arith, made.active));
    };
  }
    where
      bounded_fresh : (z : ℤ) (b : ℕ) → pos 1 ≤ℤ z → Bounded z (fresh_counts b)
      bounded_fresh z b tried = record { reject = record { least = omega (arith, ints); most = omega (arith, ints) }; trial = record { least = omega (arith, ints); most = omega (arith, ints) } }

  pub AddsBlock-added : (before : PlaceFields) → Grown before old → length old.blocks.records ≡ room_for_one before → (b : ℕ) → b ≡ before.blocks.active → AddsBlock before new b
  AddsBlock-added before grown capacity b is = let here : old.blocks.active ≡ b = grown.active ∙ sym is in record {
    is_next = is;
    active = made.active ∙ ap (λ n. n + 1) grown.active;
    free = λ s at. added_free s (at ∙ sym here);
    nodes = λ s away. nodes_outside s (λ at. away (at ∙ here)) ∙ grown.nodes s;
    infos = λ s. infos_same s ∙ grown.infos s;
    capacity = made.len ∙ capacity;
    max_trial = made.max_trial ∙ grown.max_trial;
  }
