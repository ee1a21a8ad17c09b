-- The search for places: blocks whose ring begins elsewhere, blocks that a search has failed in, and the open list.
use Rattle.std.proofs.Common.{◌≡◌, ℕ, ◌+◌, ◌*◌, ◌/◌, ◌<◌, ◌≤◌, ◌≤ℤ◌, ◌<ℤ◌, ◌+ℤ◌, List, [], ◌∷◌, ◌++◌, length, length-append, length-set, get_or, drop, zero, suc, set, cond, eqb, true, false, Bool, int_lt, refl, sym, ap, subst, inl, inr, ◌∙◌, arith, ℤ, pos, unsigned_abs}
use Rattle.std.specs.Prelude.{bit_xor}
use Rattle.std.specs.Int.Bits.{xor_assoc, xor_self, xor_zero_r}
use Rattle.std.specs.Int.{int_min}
use Rattle.std.specs.Ordering.{int_eq}
use Rattle.std.proofs.lemmas.Int.{ints}
use Rattle.std.proofs.lemmas.List.{get_or_default, get_or-set_same, get_or-set_other}
use Rattle.std.proofs.lemmas.Bool.{cases_eq, cases_Bool, cond-false, false≢true, ne_eqb}
use Rattle.std.proofs.lemmas.Bool.Decides.{Decides-int_eq}
use Rattle.cedar_slots.specs.declared.records.NodeRecord.{NodeRecord}
use Rattle.cedar_slots.specs.declared.records.NInfoRecord.{NInfoRecord}
use Rattle.cedar_slots.specs.Blocks.{BlockFields, BlockLists, counts_at, HasLists, head_of, kind_of, ListRings, next_at, prev_at, SameFrom}
use Rattle.cedar_slots.specs.declared.blocks.Counts.{Counts}
use Rattle.cedar_slots.specs.declared.blocks.BlockType.{BlockType}
use Rattle.cedar_slots.specs.declared.blocks.BlockType.TheVariants.{Open, Closed, Full}
use Rattle.cedar_slots.specs.Places.{AddsBlock, Bounded, Counted, IsBase, IsFreePlace, IsOpenBlock, IsStart, PlaceFields, Pruned, reject_at, Rejects, SameSlots, Sound, Within}
use Rattle.cedar_slots.specs.Ring.{first_of, occurs}
use Rattle.cedar_slots.specs.Slots.{AllFree, check_at, node_record_at, info_at, is_free, FreeRing, SlotLink}
use Rattle.cedar_slots.proofs.RingsLemmas.Ring.{around, length-le-range, occurs-append, occurs-le-length, occurs_same, occurs_other, place_of, Ring-turn}
use Rattle.cedar_slots.proofs.RingsLemmas.LinkedSlots.{free_member, FreeRing-apart, member_free, neighbours_of, next_is}
use Rattle.cedar_slots.proofs.ListsLemmas.LinkedBlocks.{kind_of_closed, kind_of_full}
use Rattle.cedar_slots.proofs.ListsLemmas.ThreeLists.{near, next_in_ring, last_in_ring, block_next, block_last}
use Rattle.cedar_slots.proofs.ListsLemmas.BlockMoved.{list-total}
use Rattle.cedar_slots.proofs.RingsLemmas.FreshBlock.{block_range}
use Rattle.cedar_slots.proofs.RingsLemmas.SlotTaken.{HasFree-changed, Inactive-changed, Recounted, recounted, Shaped-kept}
use Rattle.cedar_slots.proofs.RingsLemmas.InBlock.{xor_block}

-- ---- a table where the counts of one block have changed

pub Sound-recounted : (old new : PlaceFields) (b : ℕ) → Sound old → b < old.blocks.active → (was now : Counts) → Recounted old new b was now → new.slots ≡ old.slots → (ys : List ℕ) → FreeRing old.slots.nodes old.slots.infos b ys → Counted now b ys → Sound new
Sound-recounted old new b sound b_in was now blocks slots ys ring counted = record {
  shaped = Shaped-kept old new sound.shaped blocks.active blocks.len (ap (λ v. length v.nodes) slots) (ap (λ v. length v.infos) slots);
  doubled = (sound.doubled.0, blocks.len ∙ sound.doubled.1);
  free = HasFree-changed old new b sound.free blocks.active (λ s _. ap (λ v. node_record_at v.nodes s) slots) (λ s _. ap (λ v. info_at v.infos s) slots) blocks.others ys (record {
    ring = subst (λ v. FreeRing v.nodes v.infos b ys) (sym slots) ring;
    counted = subst (λ n. Counted n b ys) (sym blocks.now_is) counted;
  });
  lists = blocks.lists;
  pruned = blocks.pruned;
  rejects = blocks.rejects;
  inactive = Inactive-changed old new b sound.inactive b_in blocks.active (λ s _. ap (λ v. node_record_at v.nodes s) slots) (λ s _. ap (λ v. info_at v.infos s) slots) blocks.idle;
}

-- ---- a ring that begins at another of its members

pub record Turned (nodes : List NodeRecord) (infos : List NInfoRecord) (now : Counts) (b : ℕ) : Type 0 where
  pub members : List ℕ
  pub ring : FreeRing nodes infos b members
  pub counted : Counted now b members

pub FreeBlock-turned : (nodes : List NodeRecord) (infos : List NInfoRecord) (b e : ℕ) (xs : List ℕ) (was now : Counts) → FreeRing nodes infos b xs → Counted was b xs → 0 < occurs e xs → now.num ≡ was.num → now.e_head ≡ pos e → Turned nodes infos now b
FreeBlock-turned nodes infos b e xs was now ring counted inside num e_head =
    let place = place_of e xs inside in
    go place.before place.after (subst (FreeRing nodes infos b) place.is ring) (subst (Counted was b) place.is counted)
  where
    go : (before after : List ℕ) → FreeRing nodes infos b (before ++ e ∷ after) → Counted was b (before ++ e ∷ after) → Turned nodes infos now b
    go before after ring counted = record {
      members = (e ∷ after) ++ before;
      ring = record {
        once = λ s. let same : occurs s ((e ∷ after) ++ before) ≡ occurs s (before ++ e ∷ after) = omega (arith, occurs-append s before (e ∷ after), occurs-append s (e ∷ after) before) in same ∙ ring.once s;
        is_linked = Ring-turn (SlotLink nodes) before (e ∷ after) ring.is_linked;
        cleared = λ s p. ring.cleared s (omega (arith, p, occurs-append s before (e ∷ after), occurs-append s (e ∷ after) before));
      };
      counted = record {
        num = num ∙ counted.num ∙ ap pos (omega (arith, length-append before (e ∷ after), length-append (e ∷ after) before));
        e_head = λ _. e_head;
      };
    }

pub Turned-at : (table : PlaceFields) (e : ℕ) (sound : Sound table) → IsFreePlace table e → (was now : Counts) → was ≡ counts_at table.blocks.records (e / 256) → now.num ≡ was.num → now.e_head ≡ pos e → Turned table.slots.nodes table.slots.infos now (e / 256)
Turned-at table e sound place was now read num e_head =
    let here = sound.free (e / 256) place.is_active in
    FreeBlock-turned table.slots.nodes table.slots.infos (e / 256) e here.0 was now here.1.ring (subst (λ n. Counted n (e / 256) here.0) (sym read) here.1.counted)
    (omega (arith, free_member table.slots.nodes table.slots.infos (e / 256) here.0 here.1.ring e place.free refl)) num e_head

-- ---- what a failed search leaves

pub Rejects-lowered : (rejects : List ℤ) → Rejects rejects → (n : ℕ) → n ≤ 256 → (x wanted v : ℤ) → x ≡ reject_at rejects n → pos 1 ≤ℤ wanted → (m y given : ℤ) → v ≡ m → m ≡ int_min y given → y ≡ x → given ≡ wanted → v ≤ℤ x → Rejects (set rejects n v)
Rejects-lowered rejects held n n_in x wanted v read some m y given v_is m_is y_is given_is below =
    let is : v ≡ int_min x wanted = v_is ∙ m_is ∙ ap (λ z. int_min z given) y_is ∙ ap (int_min x) given_is in
    record {
      len = length-set rejects n v ∙ held.len;
      value = λ i i_in. elim (cases_eq i n) [
        | inl same ↦ rw same (let at : reject_at (set rejects n v) n ≡ v = get_or-set_same rejects n v (pos 1) (omega (arith, held.len)) in
            let bounds = subst (λ z. Within (pos 1) z (pos (n + 1))) (sym read) (held.value n n_in) in
            subst (λ z. Within (pos 1) z (pos (n + 1))) (sym at) (record { least = subst (λ z. pos 1 ≤ℤ z) (sym is) (least (int_lt wanted x) bounds.least); most = le_through v x (pos (n + 1)) below bounds.most }))
        | inr other ↦ subst (λ z. Within (pos 1) z (pos (i + 1))) (sym (get_or-set_other rejects n i v (pos 1) other)) (held.value i i_in)
      ];
    }
  where
    least : (t : Bool) → pos 1 ≤ℤ x → pos 1 ≤ℤ cond t wanted x
    least true h = some
    least false h = h

    le_through : (p q r : ℤ) → p ≤ℤ q → q ≤ℤ r → p ≤ℤ r
    le_through p q r h k = omega (arith, ints)

pub num_bounds : (table : PlaceFields) (sound : Sound table) (b : ℕ) → 0 < b → b < table.blocks.active → (counts : Counts) → counts ≡ counts_at table.blocks.records b → (pos 0 ≤ℤ counts.num) × (counts.num ≤ℤ pos 256)
num_bounds table sound b positive b_in counts read =
    let here = sound.free b b_in in
    let ring = here.1.ring in
    let nodes = table.slots.nodes in
    let infos = table.slots.infos in
    let none : cond {A = ℕ} (eqb b 0) 1 0 ≡ 0 = cond-false {A = ℕ} (eqb b 0) 1 0 (ne_eqb b 0 (λ e. absurd (omega arith))) in
    let num : counts.num ≡ pos (length here.0) = ap (λ (n : Counts). n.num) read ∙ here.1.counted.num ∙ ap pos (omega (arith, none)) in
    let short : length here.0 ≤ 256 = length-le-range (256 * b) 256 here.0 (FreeRing-apart nodes infos b here.0 ring) (λ s p. block_range s b (member_free nodes infos b here.0 ring s p).1) in
    rw num (at_least _, at_most _ short)
  where
    at_least : (n : ℕ) → pos 0 ≤ℤ pos n
    at_least n = omega (arith, ints)

    at_most : (n : ℕ) → n ≤ 256 → pos n ≤ℤ pos 256
    at_most n h = omega (arith, ints)

open_not_tried : (z : ℤ) (counts : Counts) → kind_of z counts ≡ Open → counts.trial ≡ z → ⊥
open_not_tried z counts is_open tried = elim (cases_Bool (int_eq counts.num (pos 0))) [
  | inl zero_num ↦ let full : kind_of z counts ≡ Full = kind_of_full z counts ((Decides-int_eq counts.num (pos 0)).0 zero_num) in other_kind Full (sym full ∙ is_open) (λ e. cc)
  | inr some ↦ let closed : kind_of z counts ≡ Closed = kind_of_closed z counts (λ h. false≢true (sym some ∙ (Decides-int_eq counts.num (pos 0)).1 h)) (inr tried) in other_kind Closed (sym closed ∙ is_open) (λ e. cc)
]
  where
    other_kind : (k : BlockType) → k ≡ Open → (k ≡ Open → ⊥) → ⊥
    other_kind k e h = h e

pub open_trial : (blocks : BlockFields) (b : ℕ) → Pruned blocks → IsOpenBlock blocks b → (counts : Counts) → counts ≡ counts_at blocks.records b → (pos 0 ≤ℤ counts.trial) × (counts.trial <ℤ blocks.max_trial)
open_trial blocks b pruned is counts read =
    let bounds = subst (Bounded blocks.max_trial) (sym read) (pruned.bounded b is.is_active) in
    (bounds.trial.least, strictly counts.trial blocks.max_trial bounds.trial.most (open_not_tried blocks.max_trial counts (ap (kind_of blocks.max_trial) read ∙ is.open_kind)))
  where
    strictly : (x y : ℤ) → x ≤ℤ y → (x ≡ y → ⊥) → x <ℤ y
    strictly x y h other = omega (arith, ints)

pub Bounded-failed : (z y : ℤ) (was now : Counts) (wanted given : ℤ) → y ≡ z → pos 0 ≤ℤ was.trial → was.trial <ℤ z → now.reject ≡ given → given ≡ wanted → pos 1 ≤ℤ wanted → wanted ≤ℤ pos 256 → now.trial ≡ was.trial +ℤ pos 1 → Bounded y now
Bounded-failed z y was now wanted given max natural below reject same some few trial = record {
  reject = subst (λ n. Within (pos 1) n (pos 257)) (sym (reject ∙ same)) (record { least = some; most = omega (arith, ints) });
  trial = rw trial (rw max (record { least = omega (arith, ints); most = omega (arith, ints) }));
}

pub Counted-same : (was now : Counts) (b : ℕ) (xs : List ℕ) → Counted was b xs → now.num ≡ was.num → now.e_head ≡ was.e_head → Counted now b xs
Counted-same was now b xs counted num e_head = record { num = num ∙ counted.num; e_head = λ some. e_head ∙ counted.e_head some }

-- the table once a search has failed in the block b, between which the reject values were lowered
pub Sound-failed : (old mid new : PlaceFields) (b : ℕ) (sound : Sound old) → IsOpenBlock old.blocks b → (was now : Counts) → was ≡ counts_at old.blocks.records b → mid.slots ≡ old.slots → mid.blocks ≡ old.blocks → Rejects mid.reject → counts_at new.blocks.records b ≡ now → HasLists new.blocks → new.blocks.active ≡ mid.blocks.active → length new.blocks.records ≡ length mid.blocks.records → new.blocks.max_trial ≡ mid.blocks.max_trial → ((c : ℕ) → (c ≡ b → ⊥) → counts_at new.blocks.records c ≡ counts_at mid.blocks.records c) → SameFrom mid.blocks.active mid.blocks.records new.blocks.records → Bounded old.blocks.max_trial now → now.num ≡ was.num → now.e_head ≡ was.e_head → new.slots ≡ mid.slots → new.reject ≡ mid.reject → Sound new
Sound-failed old mid new b sound is was now read slots blocks rejects made lists active len max_trial others idle bounded num e_head new_slots new_reject =
    let here = sound.free b is.is_active in
    let max_same : new.blocks.max_trial ≡ old.blocks.max_trial = max_trial ∙ ap (λ (v : BlockFields). v.max_trial) blocks in
    Sound-recounted old new b sound is.is_active was now
    (recounted old new b sound is.is_active was now read made
    (λ _. subst (λ z. Bounded z now) (sym max_same) bounded)
    (λ root _. absurd (omega (arith, is.not_root)))
    lists (active ∙ ap (λ (v : BlockFields). v.active) blocks) (len ∙ ap (λ (v : BlockFields). length v.records) blocks) max_same
    (λ c other. others c other ∙ ap (λ (v : BlockFields). counts_at v.records c) blocks)
    (subst (λ (v : BlockFields). SameFrom v.active v.records new.blocks.records) blocks idle)
    (subst Rejects (sym new_reject) rejects))
    (new_slots ∙ slots) here.0 here.1.ring (Counted-same was now b here.0 (subst (λ n. Counted n b here.0) (sym read) here.1.counted) num e_head)

-- ---- the walk along the free slots of a block

pub record IsFreeIn (table : PlaceFields) (b slot : ℕ) : Type 0 where
  pub free : is_free table.slots.nodes slot ≡ true
  pub here : slot / 256 ≡ b

pub head_start : (table : PlaceFields) (sound : Sound table) (b : ℕ) → 0 < b → b < table.blocks.active → (counts : Counts) → counts ≡ counts_at table.blocks.records b → pos 1 ≤ℤ counts.num → (head : ℕ) → head ≡ unsigned_abs counts.e_head → IsFreeIn table b head
head_start table sound b positive b_in counts read some head head_is =
    let here = sound.free b b_in in
    go here.0 here.1.ring (subst (λ n. Counted n b here.0) (sym read) here.1.counted)
  where
    none_not : (z : ℤ) (n : ℕ) → n ≡ 0 → z ≡ pos n → pos 1 ≤ℤ z → ⊥
    none_not z n zero_n is h = let zero_z : z ≡ pos 0 = is ∙ ap pos zero_n in omega (arith, ints)

    go : (xs : List ℕ) → FreeRing table.slots.nodes table.slots.infos b xs → Counted counts b xs → IsFreeIn table b head
    go [] ring counted = absurd (none_not counts.num _ (let none : cond {A = ℕ} (eqb b 0) 1 0 ≡ 0 = cond-false {A = ℕ} (eqb b 0) 1 0 (ne_eqb b 0 (λ e. absurd (omega arith))) in omega (arith, none)) counted.num some)
    go (x ∷ xs) ring counted =
        let at_head : head ≡ x = head_is ∙ ap unsigned_abs (counted.e_head (omega arith)) in
        let there = member_free table.slots.nodes table.slots.infos b (x ∷ xs) ring x (omega (arith, occurs_same x xs)) in
        rw at_head (record { free = there.0; here = there.1 })

pub next_start : (table : PlaceFields) (sound : Sound table) (b slot next : ℕ) → b < table.blocks.active → IsFreeIn table b slot → next ≡ unsigned_abs (check_at table.slots.nodes slot) → IsFreeIn table b next
next_start table sound b slot next b_in is next_eq =
    let nodes = table.slots.nodes in
    let infos = table.slots.infos in
    let here = sound.free b b_in in
    let inside : 0 < occurs slot here.0 = omega (arith, free_member nodes infos b here.0 here.1.ring slot is.free is.here) in
    let place = place_of slot here.0 inside in
    let whole : FreeRing nodes infos b (place.before ++ slot ∷ place.after) = subst (FreeRing nodes infos b) place.is here.1.ring in
    let ring = around (SlotLink nodes) slot place.before place.after whole.is_linked in
    let near_slot = neighbours_of nodes infos b (place.before ++ slot ∷ place.after) whole slot (place.after ++ place.before) (omega (arith, occurs-append slot place.before (slot ∷ place.after), occurs_same slot place.after)) (λ s. omega (arith, occurs-append s place.before (slot ∷ place.after), occurs-append s place.after place.before)) ring in
    let at : next ≡ ring.next = next_eq ∙ next_is nodes b slot ring.last ring.next near_slot in
    rw at (record { free = near_slot.next_free; here = near_slot.next_here })

-- each label's slot is free if the first one is on a free slot, and those of the other labels are free
pub first_fits : (nodes : List NodeRecord) (slot first : ℕ) (labels others : List ℕ) → first ≡ get_or labels 0 0 → others ≡ drop 1 labels → is_free nodes slot ≡ true → AllFree nodes (bit_xor slot first) others → AllFree nodes (bit_xor slot (get_or labels 0 0)) labels
first_fits nodes slot first [] others is rest free fits k d h = absurd (omega arith)
first_fits nodes slot first (x ∷ xs) others is rest free fits zero d h =
    let back : bit_xor (bit_xor slot x) x ≡ slot = xor_assoc slot x x ∙ ap (bit_xor slot) (xor_self x) ∙ xor_zero_r slot in
    rw back free
first_fits nodes slot first (x ∷ xs) others is rest free fits (suc k) d h =
    let inside : k < length others = rw rest (omega arith) in
    subst (λ l. is_free nodes (bit_xor (bit_xor slot l) (get_or xs k d)) ≡ true) is (subst (λ ys. is_free nodes (bit_xor (bit_xor slot first) (get_or ys k d)) ≡ true) rest (fits k d inside))

-- a step by a label from a slot of an active block stays in the table
pub start_block : (b slot label : ℕ) → slot / 256 ≡ b → label < 256 → bit_xor slot label / 256 ≡ b
start_block b slot label here small = xor_block slot label small ∙ here

pub start_positive : (b slot label : ℕ) → 0 < b → slot / 256 ≡ b → label < 256 → 0 < bit_xor slot label / 256
start_positive b slot label positive here small = let block : bit_xor slot label / 256 ≡ b = xor_block slot label small ∙ here in omega arith

-- ---- the walk along the open list

record OpenAround (blocks : BlockFields) (open_list : List ℕ) (e : ℕ) : Type 0 where
  next_in : 0 < occurs (unsigned_abs (next_at blocks.records e)) open_list
  last_in : 0 < occurs (unsigned_abs (prev_at blocks.records e)) open_list
  alone : unsigned_abs (next_at blocks.records e) ≡ e → (x : ℕ) → 0 < occurs x open_list → x ≡ e

open_around : (blocks : BlockFields) (lists : BlockType → List ℕ) → ListRings blocks lists → (e : ℕ) → 0 < occurs e (lists Open) → OpenAround blocks (lists Open) e
open_around blocks lists rings e inside =
    let place = place_of e (lists Open) inside in
    let before = place.before in
    let after = place.after in
    let beside = near blocks blocks Open e lists rings (λ j _. refl) before after place.is in
    let next_same : unsigned_abs (next_at blocks.records e) ≡ beside.next = block_next blocks blocks Open e lists rings (λ j _. refl) before after place.is in
    let last_same : unsigned_abs (prev_at blocks.records e) ≡ beside.last = block_last blocks blocks Open e lists rings (λ j _. refl) before after place.is in
    let all : (x : ℕ) → occurs x (lists Open) ≡ occurs x before + occurs x (e ∷ after) = λ x. ap (occurs x) place.is ∙ occurs-append x before (e ∷ after) in
    record {
      next_in = rw next_same (next_in_ring blocks blocks Open e lists rings (λ j _. refl) before after place.is);
      last_in = rw last_same (last_in_ring blocks blocks Open e lists rings (λ j _. refl) before after place.is);
      alone = λ same x x_in.
          let e_not : occurs e (after ++ before) ≡ 0 = omega (arith, rings.apart e, list-total lists Open e, all e, occurs_same e after, occurs-append e after before) in
          let none : length (after ++ before) ≡ 0 = elim (cases_eq (length (after ++ before)) 0) [
            | inl none ↦ none
            | inr some ↦ absurd (omega (arith, e_not, subst (λ n. 0 < occurs n (after ++ before)) (sym next_same ∙ same) (beside.others (omega arith)).1))
          ] in
          elim (cases_eq x e) [
            | inl is ↦ is
            | inr other ↦ absurd (omega (arith, x_in, all x, occurs_other x e after other, occurs-le-length x after, occurs-le-length x before, none, length-append after before))
          ];
    }

listed_open : (blocks : BlockFields) (lists : BlockType → List ℕ) → BlockLists blocks lists → (b : ℕ) → 0 < occurs b (lists Open) → IsOpenBlock blocks b
listed_open blocks lists held b inside = let only = held.only Open b inside in record { not_root = only.0; is_active = only.1; open_kind = only.2 }

open_listed : (blocks : BlockFields) (lists : BlockType → List ℕ) → BlockLists blocks lists → (b : ℕ) → IsOpenBlock blocks b → 0 < occurs b (lists Open)
open_listed blocks lists held b is = let one : occurs b (lists Open) ≡ 1 = subst (λ k. occurs b (lists k) ≡ 1) is.open_kind (held.listed b is.not_root is.is_active) in omega arith

pub head_open : (table : PlaceFields) → Sound table → (b : ℕ) → b ≡ unsigned_abs (head_of table.blocks Open) → (b ≡ 0 → ⊥) → IsOpenBlock table.blocks b
head_open table sound b first some =
    let held = sound.lists.1 in
    listed_open table.blocks sound.lists.0 held b (first_occurs (sound.lists.0 Open) b (first ∙ ap unsigned_abs (held.rings.headed Open)) some)
  where
    first_occurs : (xs : List ℕ) (b : ℕ) → b ≡ first_of xs → (b ≡ 0 → ⊥) → 0 < occurs b xs
    first_occurs [] b e h = absurd (h e)
    first_occurs (x ∷ xs) b e h = subst (λ n. 0 < occurs n (x ∷ xs)) (sym e) (omega (arith, occurs_same x xs))

pub last_open : (table : PlaceFields) → Sound table → (b last : ℕ) → IsOpenBlock table.blocks b → last ≡ unsigned_abs (prev_at table.blocks.records b) → IsOpenBlock table.blocks last
last_open table sound b last is last_is =
    let held = sound.lists.1 in
    rw last_is (listed_open table.blocks sound.lists.0 held _ (open_around table.blocks sound.lists.0 held.rings b (open_listed table.blocks sound.lists.0 held b is)).last_in)

pub next_open : (table : PlaceFields) → Sound table → (b next : ℕ) → IsOpenBlock table.blocks b → next ≡ unsigned_abs (next_at table.blocks.records b) → IsOpenBlock table.blocks next
next_open table sound b next is next_is =
    let held = sound.lists.1 in
    rw next_is (listed_open table.blocks sound.lists.0 held _ (open_around table.blocks sound.lists.0 held.rings b (open_listed table.blocks sound.lists.0 held b is)).next_in)

-- the block after one that isn't the last is another one
pub next_other : (table : PlaceFields) → Sound table → (b next last : ℕ) → IsOpenBlock table.blocks b → IsOpenBlock table.blocks last → (b ≡ last → ⊥) → next ≡ unsigned_abs (next_at table.blocks.records b) → next ≡ b → ⊥
next_other table sound b next last is last_is other next_is same =
    let held = sound.lists.1 in
    other (sym ((open_around table.blocks sound.lists.0 held.rings b (open_listed table.blocks sound.lists.0 held b is)).alone (sym next_is ∙ same) last (open_listed table.blocks sound.lists.0 held last last_is)))

pub IsOpen-kept : (old new : BlockFields) (e : ℕ) → new.active ≡ old.active → new.max_trial ≡ old.max_trial → ((b : ℕ) → (b ≡ e → ⊥) → counts_at new.records b ≡ counts_at old.records b) → (b : ℕ) → (b ≡ e → ⊥) → IsOpenBlock old b → IsOpenBlock new b
IsOpen-kept old new e active max_trial others b other is = record {
  not_root = is.not_root;
  is_active = omega (arith, is.is_active, active);
  open_kind = ap (λ z. kind_of z (counts_at new.records b)) max_trial ∙ ap (kind_of old.max_trial) (others b other) ∙ is.open_kind;
}

-- ---- the place that is returned

pub IsBase-start : (table : PlaceFields) (b slot label : ℕ) (labels : List ℕ) → 0 < b → b < table.blocks.active → IsStart table b slot labels → label ≡ get_or labels 0 0 → label < 256 → IsBase table (bit_xor slot label) labels
IsBase-start table b slot label labels positive b_in start first small =
    let block : bit_xor slot label / 256 ≡ b = xor_block slot label small ∙ start.here in
    record {
      not_root = omega arith;
      is_active = omega arith;
      free = subst (λ l. AllFree table.slots.nodes (bit_xor slot l) labels) (sym first) start.fits;
    }

pub IsBase-made : (old new : PlaceFields) (b label : ℕ) (labels : List ℕ) → 0 < old.blocks.active → AddsBlock old new b → ((i : ℕ) → get_or labels i 0 < 256) → label < 256 → IsBase new (bit_xor (256 * b) label) labels
IsBase-made old new b label labels some added bytes small =
    let block : bit_xor (256 * b) label / 256 ≡ b = xor_block (256 * b) label small ∙ omega arith in
    record {
      not_root = omega (arith, block, added.is_next);
      is_active = omega (arith, block, added.is_next, added.active);
      free = λ k d inside. added.free _ (xor_block (bit_xor (256 * b) label) (get_or labels k d) (subst (λ l. l < 256) (get_or_default labels k 0 d inside) (bytes k)) ∙ block);
    }

pub AddsBlock-from : (old mid new : PlaceFields) (b : ℕ) → mid.slots ≡ old.slots → mid.blocks.active ≡ old.blocks.active → length mid.blocks.records ≡ length old.blocks.records → mid.blocks.max_trial ≡ old.blocks.max_trial → AddsBlock mid new b → AddsBlock old new b
AddsBlock-from old mid new b slots active len max_trial added = record {
  is_next = added.is_next ∙ active;
  active = added.active ∙ ap (λ n. n + 1) active;
  free = added.free;
  nodes = λ s away. added.nodes s away ∙ ap (λ v. node_record_at v.nodes s) slots;
  infos = λ s. added.infos s ∙ ap (λ v. info_at v.infos s) slots;
  capacity = added.capacity ∙ ap (λ n. cond (eqb n (length mid.blocks.records)) (2 * length mid.blocks.records) (length mid.blocks.records)) active ∙ ap (λ n. cond (eqb old.blocks.active n) (2 * n) n) len;
  max_trial = added.max_trial ∙ max_trial;
}

pub made_block : (b label : ℕ) → label < 256 → bit_xor (256 * b) label / 256 ≡ b
made_block b label small = xor_block (256 * b) label small ∙ omega arith

pub SameSlots-then : (one two three : PlaceFields) → SameSlots one two → SameSlots two three → SameSlots one three
SameSlots-then one two three p q = record { slots = q.slots ∙ p.slots; active = q.active ∙ p.active; len = q.len ∙ p.len; max_trial = q.max_trial ∙ p.max_trial }

pub IsBase-kept : (old new : PlaceFields) (base : ℕ) (labels : List ℕ) → SameSlots old new → IsBase old base labels → IsBase new base labels
IsBase-kept old new base labels same is = record {
  not_root = is.not_root;
  is_active = omega (arith, is.is_active, same.active);
  free = subst (λ v. AllFree v.nodes base labels) (sym same.slots) is.free;
}
