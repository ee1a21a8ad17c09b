-- A table from which a slot was taken, or to which one was given back.
use Rattle.std.proofs.Common.{◌≡◌, ℕ, ◌+◌, ◌*◌, ◌/◌, ◌<◌, ◌≤◌, ◌≤ℤ◌, ◌<ℤ◌, List, [], ◌∷◌, length, set, cond, eqb, true, false, int_lt, refl, sym, ap, subst, inl, inr, ◌∙◌, arith, ℤ, pos, unsigned_abs}
use Rattle.std.specs.Int.{int_max}
use Rattle.std.proofs.lemmas.Int.{ints}
use Rattle.std.proofs.lemmas.List.{get_or-set_other, get_or-set_same, nil_from_length}
use Rattle.std.proofs.lemmas.Bool.{cases_eq, cases_Bool, cond-true, cond-false, eq-eqb, ne_eqb, and_left}
use Rattle.cedar_slots.specs.declared.records.NodeRecord.{NodeRecord}
use Rattle.cedar_slots.specs.Slots.{blank_info, check_at, FreeRing, given_after, given_alone, info_at, is_free, node_record_at, SlotFields, nodes_after_take}
use Rattle.cedar_slots.specs.declared.blocks.Counts.{Counts}
use Rattle.cedar_slots.specs.declared.blocks.BlockType.{BlockType}
use Rattle.cedar_slots.specs.declared.blocks.BlockType.TheVariants.{Open, Closed, Full}
use Rattle.cedar_slots.proofs.ListsLemmas.LinkedBlocks.{kind_of_full, full_num}
use Rattle.cedar_slots.proofs.ListsLemmas.ThreeLists.{empty_list}
use Rattle.cedar_slots.proofs.ListsLemmas.BlockMoved.{members_below, push_in}
use Rattle.cedar_slots.specs.Places.{Bounded, Counted, FreeBlock, FreesSlot, HasFree, Inactive, IsFreePlace, PlaceFields, Pruned, Rejects, Shaped, Sound, TakesSlot, Within}
use Rattle.cedar_slots.specs.Ring.{first_of, occurs}
use Rattle.cedar_slots.specs.Blocks.{BlockFields, counts_at, HasLists, head_of, kind_of, SameFrom}
use Rattle.cedar_slots.proofs.RingsLemmas.Ring.{occurs-le-length, length-le-range, occurs_same, occurs_other}
use Rattle.cedar_slots.proofs.RingsLemmas.LinkedSlots.{free_member, member_free, FreeRing-apart, RingAfterTake, FreeRing-taken, FreeRing-frame, Less, Freed, FreeRing-given_alone, Freed-given_alone, FreeRing-given_after, Freed-given_after, given_after_here, free_link}

-- a table whose change lies in one block has all its rings, if that block has its ring
pub HasFree-changed : (old new : PlaceFields) (b : ℕ) → HasFree old → new.blocks.active ≡ old.blocks.active → ((s : ℕ) → (s / 256 ≡ b → ⊥) → node_record_at new.slots.nodes s ≡ node_record_at old.slots.nodes s) → ((s : ℕ) → (s / 256 ≡ b → ⊥) → info_at new.slots.infos s ≡ info_at old.slots.infos s) → ((c : ℕ) → (c ≡ b → ⊥) → counts_at new.blocks.records c ≡ counts_at old.blocks.records c) → (xs : List ℕ) → FreeBlock new b xs → HasFree new
HasFree-changed old new b free active nodes infos counts xs changed c c_in = elim (cases_eq c b) [
  | inl same ↦ (xs, subst (λ n. FreeBlock new n xs) (sym same) changed)
  | inr other ↦ let kept = free c (omega arith) in (
    kept.0,
    record {
      ring = FreeRing-frame old.slots.nodes new.slots.nodes old.slots.infos new.slots.infos c kept.0 (λ s here. nodes s (λ there. other (sym here ∙ there))) (λ s here. infos s (λ there. other (sym here ∙ there))) kept.1.ring;
      counted = subst (λ n. Counted n c kept.0) (sym (counts c other)) kept.1.counted;
    },
  )
]

pub Shaped-kept : (old new : PlaceFields) → Shaped old → new.blocks.active ≡ old.blocks.active → length new.blocks.records ≡ length old.blocks.records → length new.slots.nodes ≡ length old.slots.nodes → length new.slots.infos ≡ length old.slots.infos → Shaped new
Shaped-kept old new shaped active records nodes infos = record {
  blocks = record { some = omega (arith, shaped.blocks.some); active_in = omega (arith, shaped.blocks.active_in); fits = omega (arith, shaped.blocks.fits) };
  nodes = omega (arith, shaped.nodes);
  infos = omega (arith, shaped.infos);
}

-- ---- the bounds of a search, and what is not in use

pub Bounded-same : (z y : ℤ) (was now : Counts) → y ≡ z → now.reject ≡ was.reject → now.trial ≡ was.trial → Bounded z was → Bounded y now
Bounded-same z y was now max reject trial bounded = record {
  reject = subst (λ n. Within (pos 1) n (pos 257)) (sym reject) bounded.reject;
  trial = subst (λ n. Within (pos 0) n y) (sym trial) (subst (λ n. Within (pos 0) was.trial n) (sym max) bounded.trial);
}

pub Within-max : (low x y high : ℤ) → Within low x high → Within low y high → Within low (int_max x y) high
Within-max low x y high p q = elim (cases_Bool (int_lt y x)) [
  | inl less ↦ subst (λ n. Within low n high) (sym (cond-true (int_lt y x) x y less)) p
  | inr not_less ↦ subst (λ n. Within low n high) (sym (cond-false (int_lt y x) x y not_less)) q
]

-- a block that was given back a slot
pub Bounded-more : (z y : ℤ) (was now : Counts) (floor given : ℤ) → y ≡ z → pos 1 ≤ℤ z → now.reject ≡ int_max was.reject given → given ≡ floor → Within (pos 1) floor (pos 257) → now.trial ≡ pos 0 → Bounded z was → Bounded y now
Bounded-more z y was now floor given max tried reject same floor_in trial bounded = record {
  reject = subst (λ n. Within (pos 1) n (pos 257)) (sym (reject ∙ ap (int_max was.reject) same)) (Within-max _ _ _ _ bounded.reject floor_in);
  trial = rw trial (rw max (record { least = omega (arith, ints); most = omega (arith, ints) }));
}

pub Bounded-one : (z y : ℤ) (was now : Counts) (floor given : ℤ) → y ≡ z → now.reject ≡ int_max was.reject given → given ≡ floor → Within (pos 1) floor (pos 257) → now.trial ≡ was.trial → Bounded z was → Bounded y now
Bounded-one z y was now floor given max reject same floor_in trial bounded = record {
  reject = subst (λ n. Within (pos 1) n (pos 257)) (sym (reject ∙ ap (int_max was.reject) same)) (Within-max _ _ _ _ bounded.reject floor_in);
  trial = subst (λ n. Within (pos 0) n y) (sym trial) (subst (λ n. Within (pos 0) was.trial n) (sym max) bounded.trial);
}

pub Pruned-changed : (old new : BlockFields) (b : ℕ) → Pruned old → new.active ≡ old.active → new.max_trial ≡ old.max_trial → ((c : ℕ) → (c ≡ b → ⊥) → counts_at new.records c ≡ counts_at old.records c) → b < old.active → (Bounded old.max_trial (counts_at old.records b) → Bounded new.max_trial (counts_at new.records b)) → (b ≡ 0 → (counts_at old.records b).trial ≡ pos 0 → (counts_at new.records b).trial ≡ pos 0) → Pruned new
Pruned-changed old new b pruned active max_trial others b_in bounded root = record {
  max_trial = subst (λ z. pos 1 ≤ℤ z) (sym max_trial) pruned.max_trial;
  bounded = λ c c_in. elim (cases_eq c b) [
    | inl same ↦ subst (λ n. Bounded new.max_trial (counts_at new.records n)) (sym same) (bounded (pruned.bounded b b_in))
    | inr other ↦ subst (λ z. Bounded z (counts_at new.records c)) (sym max_trial) (subst (Bounded old.max_trial) (sym (others c other)) (pruned.bounded c (omega arith)))
  ];
  root = elim (cases_eq b 0) [
    | inl same ↦ subst (λ n. (counts_at new.records n).trial ≡ pos 0) same (root same (subst (λ n. (counts_at old.records n).trial ≡ pos 0) (sym same) pruned.root))
    | inr other ↦ ap (λ (n : Counts). n.trial) (others 0 (λ same. other (sym same))) ∙ pruned.root
  ];
}

pub Inactive-changed : (old new : PlaceFields) (b : ℕ) → Inactive old → b < old.blocks.active → new.blocks.active ≡ old.blocks.active → ((s : ℕ) → (s / 256 ≡ b → ⊥) → node_record_at new.slots.nodes s ≡ node_record_at old.slots.nodes s) → ((s : ℕ) → (s / 256 ≡ b → ⊥) → info_at new.slots.infos s ≡ info_at old.slots.infos s) → SameFrom old.blocks.active old.blocks.records new.blocks.records → Inactive new
Inactive-changed old new b inactive b_in active nodes infos idle = record {
  nodes = λ s above. nodes s (λ here. absurd (omega arith)) ∙ inactive.nodes s (omega arith);
  infos = λ s above. infos s (λ here. absurd (omega arith)) ∙ inactive.infos s (omega arith);
  blocks = λ c above. idle c (omega arith) ∙ inactive.blocks c (omega arith);
}

-- what a change of the blocks leaves, that changes the counts of one of them
pub record Recounted (old new : PlaceFields) (b : ℕ) (was now : Counts) : Type 0 where
  pub lists : HasLists new.blocks
  pub active : new.blocks.active ≡ old.blocks.active
  pub len : length new.blocks.records ≡ length old.blocks.records
  pub others : (c : ℕ) → (c ≡ b → ⊥) → counts_at new.blocks.records c ≡ counts_at old.blocks.records c
  pub was_is : was ≡ counts_at old.blocks.records b
  pub now_is : counts_at new.blocks.records b ≡ now
  pub idle : SameFrom old.blocks.active old.blocks.records new.blocks.records
  pub pruned : Pruned new.blocks
  pub rejects : Rejects new.reject

pub recounted : (old new : PlaceFields) (b : ℕ) → Sound old → b < old.blocks.active → (was now : Counts) → was ≡ counts_at old.blocks.records b → counts_at new.blocks.records b ≡ now → (Bounded old.blocks.max_trial was → Bounded new.blocks.max_trial now) → (b ≡ 0 → was.trial ≡ pos 0 → now.trial ≡ pos 0) → HasLists new.blocks → new.blocks.active ≡ old.blocks.active → length new.blocks.records ≡ length old.blocks.records → new.blocks.max_trial ≡ old.blocks.max_trial → ((c : ℕ) → (c ≡ b → ⊥) → counts_at new.blocks.records c ≡ counts_at old.blocks.records c) → SameFrom old.blocks.active old.blocks.records new.blocks.records → Rejects new.reject → Recounted old new b was now
recounted old new b sound b_in was now was_is now_is bounds root lists active len max_trial others idle rejects = record {
  lists = lists;
  active = active;
  len = len;
  others = others;
  was_is = was_is;
  now_is = now_is;
  idle = idle;
  rejects = rejects;
  pruned = Pruned-changed old.blocks new.blocks b sound.pruned active max_trial others b_in
      (λ bounded. subst (Bounded new.blocks.max_trial) (sym now_is) (bounds (subst (Bounded old.blocks.max_trial) (sym was_is) bounded)))
      (λ at zero. ap (λ (n : Counts). n.trial) now_is ∙ root at (ap (λ (n : Counts). n.trial) was_is ∙ zero));
}

-- ---- a slot taken

-- what the ring of the slot e is once e was taken
pub taking : (old : PlaceFields) (e : ℕ) (node : NodeRecord) (sound : Sound old) (e_in : e / 256 < old.blocks.active) → is_free old.slots.nodes e ≡ true → int_lt node.check (pos 0) ≡ false → RingAfterTake old.slots.nodes old.slots.infos (e / 256) e node (sound.free (e / 256) e_in).0
taking old e node sound e_in free used = let here = sound.free (e / 256) e_in in FreeRing-taken old.slots.nodes old.slots.infos (e / 256) e node here.0 here.1.ring free refl used

counted_taken : (old new : Counts) (b e next : ℕ) (xs rest : List ℕ) → Counted old b xs → Less e next xs rest → ((n : ℕ) → old.num ≡ pos (n + 1) → new.num ≡ pos n) → (old.e_head ≡ pos e → new.e_head ≡ pos next) → ((old.e_head ≡ pos e → ⊥) → new.e_head ≡ old.e_head) → Counted new b rest
counted_taken old new b e next xs rest counted less num head_taken head_kept = record {
  num = num (length rest + cond (eqb b 0) 1 0) (counted.num ∙ ap pos (omega (arith, less.shorter)));
  e_head = λ some. let head : old.e_head ≡ pos (first_of xs) = counted.e_head (omega (arith, less.shorter)) in
      elim (cases_eq (first_of xs) e) [
        | inl same ↦ head_taken (head ∙ ap pos same) ∙ ap pos (sym (less.head_taken some same))
        | inr other ↦ head_kept (λ h. other (cc)) ∙ head ∙ ap pos (sym (less.head_kept other))
      ];
}

pub Sound-taken : (old new : PlaceFields) (e : ℕ) (node : NodeRecord) (sound : Sound old) (e_in : e / 256 < old.blocks.active) → is_free old.slots.nodes e ≡ true → int_lt node.check (pos 0) ≡ false → new.slots.nodes ≡ nodes_after_take old.slots.nodes e node → new.slots.infos ≡ old.slots.infos → length new.slots.nodes ≡ length old.slots.nodes
    → (was now : Counts) → Recounted old new (e / 256) was now
    → ((n : ℕ) → was.num ≡ pos (n + 1) → now.num ≡ pos n)
    → (was.e_head ≡ pos e → now.e_head ≡ pos (unsigned_abs (check_at old.slots.nodes e)))
    → ((was.e_head ≡ pos e → ⊥) → now.e_head ≡ was.e_head) → Sound new
Sound-taken old new e node sound e_in free used nodes infos nodes_len was now blocks num head_taken head_kept =
    let b = e / 256 in
    let t = taking old e node sound e_in free used in
    let here = sound.free b e_in in
    let outside : (s : ℕ) → (s / 256 ≡ b → ⊥) → node_record_at new.slots.nodes s ≡ node_record_at old.slots.nodes s = λ s away. ap (λ ns. node_record_at ns s) nodes ∙ t.outside s away in
    let infos_outside : (s : ℕ) → (s / 256 ≡ b → ⊥) → info_at new.slots.infos s ≡ info_at old.slots.infos s = λ s away. ap (λ v. info_at v s) infos in
    record {
      shaped = Shaped-kept old new sound.shaped blocks.active blocks.len nodes_len (ap length infos);
      doubled = (sound.doubled.0, blocks.len ∙ sound.doubled.1);
      free = HasFree-changed old new b sound.free blocks.active outside infos_outside
          blocks.others t.rest (record {
            ring = subst (λ ns. FreeRing ns new.slots.infos b t.rest) (sym nodes) (subst (λ v. FreeRing (nodes_after_take old.slots.nodes e node) v b t.rest) (sym infos) t.ring);
            counted = subst (λ n. Counted n b t.rest) (sym blocks.now_is) (counted_taken was now b e _ here.0 t.rest (subst (λ n. Counted n b here.0) (sym blocks.was_is) here.1.counted) t.less num head_taken head_kept);
          });
      lists = blocks.lists;
      pruned = blocks.pruned;
      rejects = blocks.rejects;
      inactive = Inactive-changed old new b sound.inactive e_in blocks.active outside infos_outside blocks.idle;
    }

pub TakesSlot-taken : (old new : PlaceFields) (e : ℕ) (node : NodeRecord) (sound : Sound old) (e_in : e / 256 < old.blocks.active) → is_free old.slots.nodes e ≡ true → int_lt node.check (pos 0) ≡ false → new.slots.nodes ≡ nodes_after_take old.slots.nodes e node → new.slots.infos ≡ old.slots.infos → TakesSlot old.slots new.slots e node
TakesSlot-taken old new e node sound e_in free used nodes infos =
    let t = taking old e node sound e_in free used in
    record {
      holds = ap (λ ns. node_record_at ns e) nodes ∙ t.holds;
      used = ap (λ ns. is_free ns e) nodes ∙ t.now_used;
      free = λ s other. ap (λ ns. is_free ns s) nodes ∙ t.others s other;
      kept = λ s other not_free. ap (λ ns. node_record_at ns s) nodes ∙ t.used_kept s other not_free;
      infos = infos;
    }

pub num_positive : (old : PlaceFields) (e : ℕ) (sound : Sound old) (e_in : e / 256 < old.blocks.active) → is_free old.slots.nodes e ≡ true → (was : Counts) → was ≡ counts_at old.blocks.records (e / 256) → pos 1 ≤ℤ was.num
num_positive old e sound e_in free was read =
    let here = sound.free (e / 256) e_in in
    let one = free_member old.slots.nodes old.slots.infos (e / 256) here.0 here.1.ring e free refl in
    let some = occurs-le-length e here.0 in
    let num : was.num ≡ pos (length here.0 + cond (eqb (e / 256) 0) 1 0) = ap (λ (n : Counts). n.num) read ∙ here.1.counted.num in
    let bound : 1 ≤ length here.0 + cond (eqb (e / 256) 0) 1 0 = omega (arith, one, some) in
    rw num (pos_le _ bound)
  where
    pos_le : (n : ℕ) → 1 ≤ n → pos 1 ≤ℤ pos n
    pos_le n h = omega (arith, ints)

-- ---- a slot given back

-- a block with a held slot has at most 255 free slots, and block 0 counts at most 254 besides its root
pub room : (old : PlaceFields) (e : ℕ) (sound : Sound old) (e_in : e / 256 < old.blocks.active) → 0 < e → is_free old.slots.nodes e ≡ false → length (sound.free (e / 256) e_in).0 + cond (eqb (e / 256) 0) 1 0 < 256
room old e sound e_in positive used =
    let b = e / 256 in
    let here = sound.free b e_in in
    let ring = here.1.ring in
    let nodes = old.slots.nodes in
    let infos = old.slots.infos in
    let apart = FreeRing-apart nodes infos b here.0 ring in
    let e_none : occurs e here.0 ≡ 0 = ring.once e ∙ cond-false _ 1 0 (and_left _ _ used) in
    let zero_none : occurs 0 here.0 ≡ 0 = ring.once 0 in
    elim (cases_eq b 0) [
      | inl root ↦
          let long : length (0 ∷ e ∷ here.0) ≤ 256 = length-le-range 0 256 (0 ∷ e ∷ here.0)
          (λ s. elim (cases_eq s 0) [
            | inl is_zero ↦ subst (λ n. occurs n (0 ∷ e ∷ here.0) ≤ 1) (sym is_zero) (omega (arith, zero_none, occurs_other 0 e here.0 (λ same. absurd (omega arith))))
            | inr not_zero ↦ elim (cases_eq s e) [
              | inl is_e ↦ subst (λ n. occurs n (0 ∷ e ∷ here.0) ≤ 1) (sym is_e) (omega (arith, e_none, occurs_same e here.0, occurs_other e 0 (e ∷ here.0) (λ same. absurd (omega arith))))
              | inr not_e ↦ omega (arith, apart s, occurs_other s 0 (e ∷ here.0) not_zero, occurs_other s e here.0 not_e)
            ]
          ])
          (λ s p. (
            omega arith,
            elim (cases_eq s 0) [
              | inl is_zero ↦ omega arith
              | inr not_zero ↦ elim (cases_eq s e) [
                | inl is_e ↦ omega arith
                | inr not_e ↦ let there = (member_free nodes infos b here.0 ring s (omega (arith, p, occurs_other s 0 (e ∷ here.0) not_zero, occurs_other s e here.0 not_e))).1 in omega arith
              ]
            ],
          )) in
          rw (cond-true {A = ℕ} (eqb b 0) 1 0 (eq-eqb b 0 root)) (omega arith)
      | inr other ↦
          let long : length (e ∷ here.0) ≤ 256 = length-le-range (256 * b) 256 (e ∷ here.0)
          (λ s. elim (cases_eq s e) [
            | inl is_e ↦ subst (λ n. occurs n (e ∷ here.0) ≤ 1) (sym is_e) (omega (arith, e_none, occurs_same e here.0))
            | inr not_e ↦ omega (arith, apart s, occurs_other s e here.0 not_e)
          ])
          (λ s p. elim (cases_eq s e) [
            | inl is_e ↦ (omega arith, omega arith)
            | inr not_e ↦ let there = (member_free nodes infos b here.0 ring s (omega (arith, p, occurs_other s e here.0 not_e))).1 in (omega arith, omega arith)
          ]) in
          rw (cond-false {A = ℕ} (eqb b 0) 1 0 (ne_eqb b 0 other)) (omega arith)
    ]

sound_given : (old new : PlaceFields) (e : ℕ) (sound : Sound old) (e_in : e / 256 < old.blocks.active) (was now : Counts) → Recounted old new (e / 256) was now → new.slots.infos ≡ set old.slots.infos e blank_info → length new.slots.nodes ≡ length old.slots.nodes → length new.slots.infos ≡ length old.slots.infos → Freed old.slots.nodes new.slots.nodes (e / 256) e → (ys : List ℕ) → FreeRing new.slots.nodes (set old.slots.infos e blank_info) (e / 256) ys → Counted now (e / 256) ys → Sound new
sound_given old new e sound e_in was now blocks infos nodes_len infos_len freed ys ring counted =
    let b = e / 256 in
    let infos_outside : (s : ℕ) → (s / 256 ≡ b → ⊥) → info_at new.slots.infos s ≡ info_at old.slots.infos s = λ s away. ap (λ v. info_at v s) infos ∙ get_or-set_other old.slots.infos e s blank_info blank_info (λ same. away (ap (λ n. n / 256) same)) in
    record {
      shaped = Shaped-kept old new sound.shaped blocks.active blocks.len nodes_len infos_len;
      doubled = (sound.doubled.0, blocks.len ∙ sound.doubled.1);
      free = HasFree-changed old new b sound.free blocks.active freed.outside infos_outside
          blocks.others ys (record {
            ring = subst (λ v. FreeRing new.slots.nodes v b ys) (sym infos) ring;
            counted = subst (λ n. Counted n b ys) (sym blocks.now_is) counted;
          });
      lists = blocks.lists;
      pruned = blocks.pruned;
      rejects = blocks.rejects;
      inactive = Inactive-changed old new b sound.inactive e_in blocks.active freed.outside infos_outside blocks.idle;
    }

frees_slot : (old new : SlotFields) (b e : ℕ) → e < length old.infos → Freed old.nodes new.nodes b e → new.infos ≡ set old.infos e blank_info → FreesSlot old new e
frees_slot old new b e inside freed infos = record {
  now_free = freed.now_free;
  free = freed.others;
  kept = freed.used_kept;
  infos = λ s other. ap (λ v. info_at v s) infos ∙ get_or-set_other old.infos e s blank_info blank_info other;
  blank = ap (λ v. info_at v e) infos ∙ get_or-set_same old.infos e blank_info blank_info inside;
}

module _ (old : PlaceFields) (e : ℕ) (sound : Sound old) (e_in : e / 256 < old.blocks.active) (positive : 0 < e) (used : is_free old.slots.nodes e ≡ false) (was : Counts) (was_is : was ≡ counts_at old.blocks.records (e / 256)) where
  num_is : was.num ≡ pos (length (sound.free (e / 256) e_in).0 + cond (eqb (e / 256) 0) 1 0)
  num_is = ap (λ (n : Counts). n.num) was_is ∙ (sound.free (e / 256) e_in).1.counted.num

  slot_in : e < length old.slots.nodes
  slot_in = omega (arith, e_in, sound.shaped.nodes, sound.shaped.blocks.active_in)

  slot_in_infos : e < length old.slots.infos
  slot_in_infos = omega (arith, e_in, sound.shaped.nodes, sound.shaped.infos, sound.shaped.blocks.active_in)

  pub num_room : was.num <ℤ pos 256
  num_room = rw num_is (pos_lt _ (room old e sound e_in positive used))
    where
      pos_lt : (n : ℕ) → n < 256 → pos n <ℤ pos 256
      pos_lt n h = omega (arith, ints)

  pub num_natural : pos 0 ≤ℤ was.num
  num_natural = rw num_is (pos_ge _)
    where
      pos_ge : (n : ℕ) → pos 0 ≤ℤ pos n
      pos_ge n = omega (arith, ints)

  none_left : was.num ≡ pos (cond (eqb (e / 256) 0) 1 0) → (sound.free (e / 256) e_in).0 ≡ []
  none_left h = let same : ◌≡◌ {A = ℤ} (pos (length (sound.free (e / 256) e_in).0 + cond (eqb (e / 256) 0) 1 0)) (pos (cond (eqb (e / 256) 0) 1 0)) = sym num_is ∙ h in nil_from_length _ (omega (arith, pos_same _ _ same))
    where
      pos_same : (m n : ℕ) → ◌≡◌ {A = ℤ} (pos m) (pos n) → m ≡ n
      pos_same m n h = cc

  pub freed_alone : Freed old.slots.nodes (given_alone old.slots.nodes e) (e / 256) e
  freed_alone = Freed-given_alone old.slots.nodes old.slots.infos (e / 256) e positive slot_in slot_in_infos refl used

  pub Sound-given_alone : (new : PlaceFields) (now : Counts) → was.num ≡ pos (cond (eqb (e / 256) 0) 1 0) → Recounted old new (e / 256) was now → new.slots.nodes ≡ given_alone old.slots.nodes e → new.slots.infos ≡ set old.slots.infos e blank_info → length new.slots.nodes ≡ length old.slots.nodes → length new.slots.infos ≡ length old.slots.infos → ((n : ℕ) → was.num ≡ pos n → now.num ≡ pos (n + 1)) → now.e_head ≡ pos e → Sound new
  Sound-given_alone new now none blocks nodes infos nodes_len infos_len num e_head =
      let ring = subst (FreeRing old.slots.nodes old.slots.infos (e / 256)) (none_left none) (sound.free (e / 256) e_in).1.ring in
      sound_given old new e sound e_in was now blocks infos nodes_len infos_len
      (subst (λ ns. Freed old.slots.nodes ns (e / 256) e) (sym nodes) freed_alone)
      (e ∷ [])
      (subst (λ ns. FreeRing ns (set old.slots.infos e blank_info) (e / 256) (e ∷ [])) (sym nodes) (FreeRing-given_alone old.slots.nodes old.slots.infos (e / 256) e positive slot_in slot_in_infos refl used ring))
      (record { num = num _ none ∙ ap pos (omega arith); e_head = λ _. e_head })

  pub FreesSlot-given_alone : (new : SlotFields) → new.nodes ≡ given_alone old.slots.nodes e → new.infos ≡ set old.slots.infos e blank_info → FreesSlot old.slots new e
  FreesSlot-given_alone new nodes infos = frees_slot old.slots new (e / 256) e slot_in_infos (subst (λ ns. Freed old.slots.nodes ns (e / 256) e) (sym nodes) freed_alone) infos

  -- the block has another free slot
  module _ (some : was.num ≡ pos (cond (eqb (e / 256) 0) 1 0) → ⊥) where
    pub record Headed (head : ℕ) : Type 0 where
      pub rest : List ℕ
      pub ring : FreeRing old.slots.nodes old.slots.infos (e / 256) (head ∷ rest)
      pub num : was.num ≡ pos (length (head ∷ rest) + cond (eqb (e / 256) 0) 1 0)
      pub e_head : was.e_head ≡ pos head

    pub headed : (head : ℕ) → head ≡ unsigned_abs was.e_head → Headed head
    headed head head_is = go (sound.free (e / 256) e_in).0 (sound.free (e / 256) e_in).1.ring (subst (λ n. Counted n (e / 256) (sound.free (e / 256) e_in).0) (sym was_is) (sound.free (e / 256) e_in).1.counted)
      where
        go : (xs : List ℕ) → FreeRing old.slots.nodes old.slots.infos (e / 256) xs → Counted was (e / 256) xs → Headed head
        go [] ring counted = absurd (some (counted.num ∙ ap pos (omega arith)))
        go (x ∷ xs) ring counted =
            let at_head : was.e_head ≡ pos x = counted.e_head (omega arith) in
            let same : x ≡ head = sym (head_is ∙ ap unsigned_abs at_head) in
            record {
              rest = xs;
              ring = subst (λ n. FreeRing old.slots.nodes old.slots.infos (e / 256) (n ∷ xs)) same ring;
              num = counted.num;
              e_head = at_head ∙ ap pos same;
            }

    module _ (head : ℕ) (h : Headed head) where
      pub head_here : (head / 256 ≡ e / 256) × (unsigned_abs (check_at old.slots.nodes head) / 256 ≡ e / 256)
      head_here = given_after_here old.slots.nodes old.slots.infos (e / 256) e positive slot_in slot_in_infos refl used head h.rest h.ring

      pub head_link : check_at old.slots.nodes head ≤ℤ pos 0
      head_link = free_link old.slots.nodes head (member_free old.slots.nodes old.slots.infos (e / 256) (head ∷ h.rest) h.ring head (omega (arith, occurs_same head h.rest))).0

      pub freed_after : Freed old.slots.nodes (given_after old.slots.nodes head e) (e / 256) e
      freed_after = Freed-given_after old.slots.nodes old.slots.infos (e / 256) e positive slot_in slot_in_infos refl used head h.rest h.ring

      pub Sound-given_after : (new : PlaceFields) (now : Counts) → Recounted old new (e / 256) was now → new.slots.nodes ≡ given_after old.slots.nodes head e → new.slots.infos ≡ set old.slots.infos e blank_info → length new.slots.nodes ≡ length old.slots.nodes → length new.slots.infos ≡ length old.slots.infos → ((n : ℕ) → was.num ≡ pos n → now.num ≡ pos (n + 1)) → now.e_head ≡ was.e_head → Sound new
      Sound-given_after new now blocks nodes infos nodes_len infos_len num e_head =
          sound_given old new e sound e_in was now blocks infos nodes_len infos_len
          (subst (λ ns. Freed old.slots.nodes ns (e / 256) e) (sym nodes) freed_after)
          (head ∷ e ∷ h.rest)
          (subst (λ ns. FreeRing ns (set old.slots.infos e blank_info) (e / 256) (head ∷ e ∷ h.rest)) (sym nodes) (FreeRing-given_after old.slots.nodes old.slots.infos (e / 256) e positive slot_in slot_in_infos refl used head h.rest h.ring))
          (record { num = num _ h.num ∙ ap pos (omega arith); e_head = λ _. e_head ∙ h.e_head })

      pub FreesSlot-given_after : (new : SlotFields) → new.nodes ≡ given_after old.slots.nodes head e → new.infos ≡ set old.slots.infos e blank_info → FreesSlot old.slots new e
      FreesSlot-given_after new nodes infos = frees_slot old.slots new (e / 256) e slot_in_infos (subst (λ ns. Freed old.slots.nodes ns (e / 256) e) (sym nodes) freed_after) infos

-- ---- a free slot outside block 0

first_occurs : (xs : List ℕ) (b : ℕ) → b ≡ first_of xs → (b ≡ 0 → ⊥) → 0 < occurs b xs
first_occurs [] b e h = absurd (h e)
first_occurs (x ∷ xs) b e h = subst (λ n. 0 < occurs n (x ∷ xs)) (sym e) (omega (arith, occurs_same x xs))

-- the number of the slot at which a block's free ones begin is not below 0
pub head_natural : (table : PlaceFields) (sound : Sound table) (b : ℕ) → b < table.blocks.active → (counts : Counts) → counts ≡ counts_at table.blocks.records b → (counts.num ≡ pos (cond (eqb b 0) 1 0) → ⊥) → pos 0 ≤ℤ counts.e_head
head_natural table sound b b_in counts read some =
    let here = sound.free b b_in in
    go here.0 (subst (λ n. Counted n b here.0) (sym read) here.1.counted)
  where
    natural : (n : ℕ) → pos 0 ≤ℤ pos n
    natural n = omega (arith, ints)

    go : (xs : List ℕ) → Counted counts b xs → pos 0 ≤ℤ counts.e_head
    go [] counted = absurd (some (counted.num ∙ ap pos (omega arith)))
    go (x ∷ xs) counted = subst (λ z. pos 0 ≤ℤ z) (sym (counted.e_head (omega arith))) (natural x)

-- nor that of the head of a list of blocks that aren't full
pub listed_head_natural : (table : PlaceFields) (sound : Sound table) (k : BlockType) → (k ≡ Full → ⊥) → (b : ℕ) → b ≡ unsigned_abs (head_of table.blocks k) → (b ≡ 0 → ⊥) → (counts : Counts) → counts ≡ counts_at table.blocks.records b → pos 0 ≤ℤ counts.e_head
listed_head_natural table sound k not_full b first some counts read =
    let lists = sound.lists.0 in
    let held = sound.lists.1 in
    let is_first : b ≡ first_of (lists k) = first ∙ ap unsigned_abs (held.rings.headed k) in
    let only = held.only k b (first_occurs (lists k) b is_first some) in
    let no_root : cond {A = ℕ} (eqb b 0) 1 0 ≡ 0 = cond-false _ 1 0 (ne_eqb b 0 some) in
    head_natural table sound b only.1 counts read (λ none. not_full (sym only.2 ∙ kind_of_full table.blocks.max_trial (counts_at table.blocks.records b) (ap (λ (n : Counts). n.num) (sym read) ∙ none ∙ ap pos no_root)))

-- the head of a list of blocks that aren't full leads to a free slot
pub listed_head_free : (table : PlaceFields) (sound : Sound table) (k : BlockType) → (k ≡ Full → ⊥) → (b : ℕ) → b ≡ unsigned_abs (head_of table.blocks k) → (b ≡ 0 → ⊥) → (counts : Counts) → counts ≡ counts_at table.blocks.records b → (slot : ℕ) → slot ≡ unsigned_abs counts.e_head → IsFreePlace table slot
listed_head_free table sound k not_full b first some counts read slot slot_is =
    let lists = sound.lists.0 in
    let held = sound.lists.1 in
    let is_first : b ≡ first_of (lists k) = first ∙ ap unsigned_abs (held.rings.headed k) in
    let member : 0 < occurs b (lists k) = first_occurs (lists k) b is_first some in
    let only = held.only k b member in
    let here = sound.free b only.1 in
    go counts read only here.0 here.1
  where
    go : (counts : Counts) → counts ≡ counts_at table.blocks.records b → (0 < b) × (b < table.blocks.active) × (kind_of table.blocks.max_trial (counts_at table.blocks.records b) ≡ k) → (xs : List ℕ) → FreeBlock table b xs → IsFreePlace table slot
    go counts' read' only [] here = absurd (not_full (sym only.2 ∙ kind_of_full table.blocks.max_trial (counts_at table.blocks.records b) (let no_root : cond {A = ℕ} (eqb b 0) 1 0 ≡ 0 = cond-false _ 1 0 (ne_eqb b 0 some) in here.counted.num ∙ ap pos (omega (arith, no_root)))))
    go counts' read' only (x ∷ xs) here =
        let at_head : slot ≡ x = slot_is ∙ ap (λ (n : Counts). unsigned_abs n.e_head) read ∙ ap unsigned_abs (here.counted.e_head (omega arith)) in
        let there = member_free table.slots.nodes table.slots.infos b (x ∷ xs) here.ring x (omega (arith, occurs_same x xs)) in
        rw at_head (record { free = there.0; not_root = subst (λ n. 0 < n) (sym there.1) only.0; is_active = subst (λ n. n < table.blocks.active) (sym there.1) only.1 })

-- with neither an open nor a closed block, each slot outside block 0 is held
pub none_free : (table : PlaceFields) (sound : Sound table) → unsigned_abs (head_of table.blocks Closed) ≡ 0 → unsigned_abs (head_of table.blocks Open) ≡ 0 → (slot : ℕ) → 0 < slot / 256 → slot / 256 < table.blocks.active → is_free table.slots.nodes slot ≡ false
none_free table sound no_closed no_open slot positive active =
    let lists = sound.lists.0 in
    let held = sound.lists.1 in
    let b = slot / 256 in
    let here = sound.free b active in
    elim (cases_Bool (is_free table.slots.nodes slot)) [
      | inl free ↦ let member = free_member table.slots.nodes table.slots.infos b here.0 here.1.ring slot free refl in
          absurd (not_listed (kind_of table.blocks.max_trial (counts_at table.blocks.records b)) refl member)
      | inr used ↦ used
    ]
  where
    empty : (k : BlockType) → unsigned_abs (head_of table.blocks k) ≡ 0 → sound.lists.0 k ≡ []
    empty k h = empty_list sound.lists.0 sound.lists.1.rings.apart k (sym (ap unsigned_abs (sound.lists.1.rings.headed k)) ∙ h)

    none_in : (k : BlockType) → sound.lists.0 k ≡ [] → kind_of table.blocks.max_trial (counts_at table.blocks.records (slot / 256)) ≡ k → ⊥
    none_in k none same = absurd (omega (arith, subst (λ j. occurs (slot / 256) (sound.lists.0 j) ≡ 1) same (sound.lists.1.listed (slot / 256) positive active), ap (occurs (slot / 256)) none))

    not_listed : (k : BlockType) → kind_of table.blocks.max_trial (counts_at table.blocks.records (slot / 256)) ≡ k → occurs slot (sound.free (slot / 256) active).0 ≡ 1 → ⊥
    not_listed Open same member = none_in Open (empty Open no_open) same
    not_listed Closed same member = none_in Closed (empty Closed no_closed) same
    not_listed Full same member =
        let here = sound.free (slot / 256) active in
        let num : (counts_at table.blocks.records (slot / 256)).num ≡ pos 0 = full_num table.blocks.max_trial (counts_at table.blocks.records (slot / 256)) same in
        let short : ◌≡◌ {A = ℤ} (pos (length here.0 + cond (eqb (slot / 256) 0) 1 0)) (pos 0) = sym here.1.counted.num ∙ num in
        let zero : length here.0 + cond (eqb (slot / 256) 0) 1 0 ≡ 0 = cc in
        absurd (omega (arith, zero, member, occurs-le-length slot here.0))

pub first_in : (table : PlaceFields) (sound : Sound table) (k : BlockType) → unsigned_abs (head_of table.blocks k) < table.blocks.active
first_in table sound k = (push_in table.blocks sound.lists.0 table.blocks.active sound.lists.1.rings (members_below table.blocks sound.lists.0 sound.shaped.blocks.some sound.lists.1) k).0
