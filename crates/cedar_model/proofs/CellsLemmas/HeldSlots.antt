-- What the tree sees of a slot that was taken, one that was given back, and a block that was made.
use Rattle.std.proofs.Common.{◌≡◌, ℕ, ◌*◌, ◌<◌, ◌≤◌, ◌≤ℤ◌, ◌⊎◌, ◌&&◌, List, length, get_or, not, nat_lt, true, false, int_lt, refl, sym, ap, subst, inl, inr, ◌∙◌, arith, ℤ, pos, negsuc}
use Rattle.std.proofs.lemmas.Int.{ints}
use Rattle.std.proofs.lemmas.List.{get_or_default}
use Rattle.std.proofs.lemmas.Bool.{cases_eq, cases_lt, cases_Bool, and_right, cond-true, cond-false, ne_eqb, false_from_ne_true, false≢true}
use Rattle.std.proofs.lemmas.Bool.Decides.{Decides-ltb, nat_tests}
use Rattle.cedar_slots.specs.declared.records.NodeRecord.{NodeRecord}
use Rattle.cedar_slots.specs.declared.records.NInfoRecord.{NInfoRecord}
use Rattle.cedar_model.specs.Table.Layouts.{LayoutKind, reading}
use Rattle.cedar_slots.specs.Slots.{blank_info, check_at, info_at, is_free, node_record_at, SlotFields}
use Rattle.cedar_slots.specs.Places.{AddsBlock, FreesSlot, IsBase, IsFreePlace, NoneFree, PlaceFields, TakesSlot}
use Rattle.cedar_model.specs.Table.Cells.{Cells, cells_of, Gives, HasPlaces, Held, IsPlace, NoPlace, SameAt, SameHeld, Takes}
use Rattle.cedar_slots.proofs.RingsLemmas.InBlock.{xor_block}

lt_true : (s n : ℕ) → s < n → nat_lt s n ≡ true
lt_true s n h = grind (arith, nat_tests)

lt_false : (s n : ℕ) → n ≤ s → nat_lt s n ≡ false
lt_false s n h = grind (arith, nat_tests)

pub active_is : (k : LayoutKind) (places : PlaceFields) (s : ℕ) → s < 256 * places.blocks.active → (cells_of k places).check s ≡ check_at places.slots.nodes s
active_is k places s h = cond-true _ _ _ (lt_true s (256 * places.blocks.active) h)

past_is : (k : LayoutKind) (places : PlaceFields) (s : ℕ) → 256 * places.blocks.active ≤ s → (cells_of k places).check s ≡ negsuc 0
past_is k places s h = cond-false _ _ _ (lt_false s (256 * places.blocks.active) h)

pub natural_not_below : (z : ℤ) (c : ℕ) → z ≡ pos c → int_lt z (pos 0) ≡ false
natural_not_below z c h = ap (λ y. int_lt y (pos 0)) h ∙ false_from_ne_true _ (λ e. not_below c ((Decides-ltb c 0).0 e))
  where
    not_below : (c : ℕ) → c < 0 → ⊥
    not_below c below = omega arith

pub natural_unless : (s : ℕ) (z : ℤ) → (s ≡ 0) ⊎ (pos 0 ≤ℤ z) → (s ≡ 0) ⊎ (int_lt z (pos 0) ≡ false)
natural_unless s z (inl root) = inl root
natural_unless s (pos c) (inr natural) = inr (natural_not_below (pos c) c refl)
natural_unless s (negsuc n) (inr natural) = absurd (omega (arith, ints))

pub natural_from : (z : ℤ) → int_lt z (pos 0) ≡ false → (c : ℕ) × (z ≡ pos c)
natural_from (pos c) h = (c, refl)
natural_from (negsuc n) h = absurd (false≢true (sym h))

-- ---- held is in use and not free

pub held_used : (k : LayoutKind) (places : PlaceFields) (s : ℕ) → 0 < places.blocks.active → Held (cells_of k places) s → (s < 256 * places.blocks.active) × (is_free places.slots.nodes s ≡ false)
held_used k places s some (inl root) = (omega arith, subst (λ n. is_free places.slots.nodes n ≡ false) (sym root) refl)
held_used k places s some (inr (c, is)) = elim (cases_lt s (256 * places.blocks.active)) [
  | inl inside ↦ (inside, and_right _ _ (natural_not_below _ c (sym (active_is k places s inside) ∙ is)))
  | inr past ↦ absurd (other c (sym (past_is k places s past) ∙ is))
]
  where
    other : (c : ℕ) → negsuc 0 ≡ pos c → ⊥
    other c h = cc

pub used_held : (k : LayoutKind) (places : PlaceFields) (s : ℕ) → s < 256 * places.blocks.active → is_free places.slots.nodes s ≡ false → Held (cells_of k places) s
used_held k places s inside used = elim (cases_eq s 0) [
  | inl root ↦ inl root
  | inr other ↦ let natural = natural_from (check_at places.slots.nodes s) (not_below other) in inr (natural.0, active_is k places s inside ∙ natural.1)
]
  where
    not_below : (s ≡ 0 → ⊥) → int_lt (check_at places.slots.nodes s) (pos 0) ≡ false
    not_below other = ap (λ b. not b && int_lt (check_at places.slots.nodes s) (pos 0)) (sym (ne_eqb s 0 other)) ∙ used

pub unheld_free : (k : LayoutKind) (places : PlaceFields) (s : ℕ) → s < 256 * places.blocks.active → (Held (cells_of k places) s → ⊥) → is_free places.slots.nodes s ≡ true
unheld_free k places s inside unheld = elim (cases_Bool (is_free places.slots.nodes s)) [
  | inl free ↦ free
  | inr used ↦ absurd (unheld (used_held k places s inside used))
]

pub free_unheld : (k : LayoutKind) (places : PlaceFields) (s : ℕ) → 0 < places.blocks.active → is_free places.slots.nodes s ≡ true → Held (cells_of k places) s → ⊥
free_unheld k places s some free held = false≢true (sym (held_used k places s some held).1 ∙ free)

-- what a check that isn't below 0 says of a slot that isn't the root's
pub natural_held : (T : Cells) (s : ℕ) (z : ℤ) → z ≡ T.check s → pos 0 ≤ℤ z → Held T s
natural_held T s (pos c) read natural = inr (c, sym read)
natural_held T s (negsuc n) read natural = absurd (omega (arith, ints))

pub held_natural : (T : Cells) (s : ℕ) (z : ℤ) → (s ≡ 0 → ⊥) → z ≡ T.check s → Held T s → pos 0 ≤ℤ z
held_natural T s z other read (inl root) = absurd (other root)
held_natural T s z other read (inr (c, is)) = subst (λ y. pos 0 ≤ℤ y) (sym (read ∙ is)) (omega (arith, ints))

-- ---- what the tree sees of a change

module _ (k : LayoutKind) (old new : PlaceFields) (some : 0 < old.blocks.active) (grows : old.blocks.active ≤ new.blocks.active) where
  same_at : (s : ℕ) → s < 256 * old.blocks.active → node_record_at new.slots.nodes s ≡ node_record_at old.slots.nodes s → info_at new.slots.infos s ≡ info_at old.slots.infos s → SameAt (cells_of k old) (cells_of k new) s s
  same_at s inside node info = record {
    base = ap (λ (n : NodeRecord). n.base) node;
    stored = ap (λ (n : NodeRecord). reading k n.base) node;
    check = active_is k new s (omega arith) ∙ ap (λ (n : NodeRecord). n.check) node ∙ sym (active_is k old s inside);
    sibling = ap (λ (n : NInfoRecord). n.sibling) info;
    child = ap (λ (n : NInfoRecord). n.child) info;
  }

  -- a slot that is held now was held before, if it was in use, and its node has not changed
  held_before : (s : ℕ) → s < 256 * old.blocks.active → node_record_at new.slots.nodes s ≡ node_record_at old.slots.nodes s → Held (cells_of k new) s → Held (cells_of k old) s
  held_before s inside node (inl root) = inl root
  held_before s inside node (inr (c, is)) = inr (c, active_is k old s inside ∙ sym (ap (λ (n : NodeRecord). n.check) node) ∙ sym (active_is k new s (omega arith)) ∙ is)

  pub SameHeld-of : ((s : ℕ) → s < 256 * old.blocks.active → node_record_at new.slots.nodes s ≡ node_record_at old.slots.nodes s) → ((s : ℕ) → info_at new.slots.infos s ≡ info_at old.slots.infos s) → ((s : ℕ) → 256 * old.blocks.active ≤ s → s < 256 * new.blocks.active → is_free new.slots.nodes s ≡ true) → SameHeld (cells_of k old) (cells_of k new)
  SameHeld-of nodes infos fresh = record {
    other = λ x held. let used = held_used k old x some held in same_at x used.0 (nodes x used.0) (infos x);
    free = λ x held. let used = held_used k new x (omega arith) held in elim (cases_lt x (256 * old.blocks.active)) [
      | inl inside ↦ held_before x inside (nodes x inside) held
      | inr past ↦ absurd (false≢true (sym used.1 ∙ fresh x past used.0))
    ];
  }

module _ (k : LayoutKind) (old new : PlaceFields) (some : 0 < old.blocks.active) (same : new.blocks.active ≡ old.blocks.active) (q : ℕ) where
  others_same : ((s : ℕ) → (s ≡ q → ⊥) → is_free old.slots.nodes s ≡ false → node_record_at new.slots.nodes s ≡ node_record_at old.slots.nodes s) → ((s : ℕ) → (s ≡ q → ⊥) → info_at new.slots.infos s ≡ info_at old.slots.infos s) → (x : ℕ) → (x ≡ q → ⊥) → Held (cells_of k old) x → SameAt (cells_of k old) (cells_of k new) x x
  others_same kept infos x other held = let used = held_used k old x some held in same_at k old new some (omega arith) x used.0 (kept x other used.1) (infos x other)

  others_free : ((s : ℕ) → (s ≡ q → ⊥) → is_free new.slots.nodes s ≡ is_free old.slots.nodes s) → ((s : ℕ) → (s ≡ q → ⊥) → is_free old.slots.nodes s ≡ false → node_record_at new.slots.nodes s ≡ node_record_at old.slots.nodes s) → (x : ℕ) → (x ≡ q → ⊥) → Held (cells_of k new) x → Held (cells_of k old) x
  others_free free kept x other held =
      let used = held_used k new x (omega arith) held in
      held_before k old new some (omega arith) x (omega (arith, used.0)) (kept x other (sym (free x other) ∙ used.1)) held

  pub Takes-of : (node : NodeRecord) (c : ℕ) → q < 256 * old.blocks.active → node.check ≡ pos c → info_at old.slots.infos q ≡ blank_info → TakesSlot old.slots new.slots q node → Takes (cells_of k old) (cells_of k new) q c
  Takes-of node c inside owner blank takes =
      let blank_now : info_at new.slots.infos q ≡ blank_info = ap (λ v. info_at v q) takes.infos ∙ blank in
      record {
        at = active_is k new q (omega arith) ∙ ap (λ (n : NodeRecord). n.check) takes.holds ∙ owner;
        sibling = ap (λ (n : NInfoRecord). n.sibling) blank_now;
        child = ap (λ (n : NInfoRecord). n.child) blank_now;
        other = others_same takes.kept (λ s _. ap (λ v. info_at v s) takes.infos);
        free = others_free takes.free takes.kept;
      }

  pub Gives-of : FreesSlot old.slots new.slots q → Gives (cells_of k old) (cells_of k new) q
  Gives-of frees = record {
    gone = free_unheld k new q (omega arith) frees.now_free;
    sibling = ap (λ (n : NInfoRecord). n.sibling) frees.blank;
    child = ap (λ (n : NInfoRecord). n.child) frees.blank;
    other = others_same frees.kept frees.infos;
    free = λ x held. elim (cases_eq x q) [
      | inl is ↦ absurd (free_unheld k new q (omega arith) frees.now_free (subst (Held (cells_of k new)) is held))
      | inr other ↦ others_free frees.free frees.kept x other held
    ];
  }

pub SameHeld-added : (k : LayoutKind) (old new : PlaceFields) (b : ℕ) → 0 < old.blocks.active → AddsBlock old new b → SameHeld (cells_of k old) (cells_of k new)
SameHeld-added k old new b some added = SameHeld-of k old new some (omega (arith, added.active))
    (λ s inside. added.nodes s (λ here. absurd (omega (arith, added.is_next)))) added.infos
    (λ s from upto. added.free s (omega (arith, added.is_next, added.active)))

pub SameHeld-same : (k : LayoutKind) (old new : PlaceFields) → 0 < old.blocks.active → new.slots ≡ old.slots → new.blocks.active ≡ old.blocks.active → SameHeld (cells_of k old) (cells_of k new)
SameHeld-same k old new some slots active = SameHeld-of k old new some (omega (arith, active))
    (λ s _. ap (λ (v : SlotFields). node_record_at v.nodes s) slots) (λ s. ap (λ (v : SlotFields). info_at v.infos s) slots) (λ s from upto. absurd (omega (arith, active)))

-- ---- places in words of held slots

pub IsPlace-of : (k : LayoutKind) (places : PlaceFields) (s : ℕ) → IsFreePlace places s → IsPlace (256 * places.blocks.active) (cells_of k places) s
IsPlace-of k places s is = record {
  not_first = omega (arith, is.not_root);
  in_use = omega (arith, is.is_active);
  free = free_unheld k places s (omega (arith, is.is_active)) is.free;
}

pub NoPlace-of : (k : LayoutKind) (places : PlaceFields) → NoneFree places → NoPlace (256 * places.blocks.active) (cells_of k places)
NoPlace-of k places none s from upto = used_held k places s upto (none s (omega arith) (omega arith))

pub HasPlaces-of : (k : LayoutKind) (places : PlaceFields) (base : ℕ) (labels : List ℕ) → ((i : ℕ) → get_or labels i 0 < 256) → IsBase places base labels → HasPlaces (256 * places.blocks.active) (cells_of k places) base labels
HasPlaces-of k places base labels bytes is i d inside =
    let block = xor_block base _ (bytes_at i d inside) in
    record {
      not_first = omega (arith, block, is.not_root);
      in_use = omega (arith, block, is.is_active);
      free = free_unheld k places _ (omega (arith, is.is_active)) (is.free i d inside);
    }
  where
    bytes_at : (i d : ℕ) → i < length labels → get_or labels i d < 256
    bytes_at i d inside = subst (λ l. l < 256) (get_or_default labels i 0 d inside) (bytes i)
