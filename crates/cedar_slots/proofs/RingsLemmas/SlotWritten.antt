-- A table in which a held slot's records were written anew: its free slots, rings and lists are as they were.
use Rattle.std.proofs.Common.{◌≡◌, ℕ, ◌*◌, ◌/◌, ◌<◌, ◌≤◌, ◌&&◌, ◌⊎◌, List, length, length-set, set, not, cond, eqb, true, false, int_lt, refl, sym, ap, subst, inl, inr, ◌∙◌, arith, pos}
use Rattle.std.proofs.lemmas.List.{get_or-set_same, get_or-set_other}
use Rattle.std.proofs.lemmas.Bool.{cases_eq, and_left, and_right, eq-eqb, false≢true}
use Rattle.cedar_slots.specs.declared.records.NodeRecord.{NodeRecord}
use Rattle.cedar_slots.specs.declared.records.NInfoRecord.{NInfoRecord}
use Rattle.cedar_slots.specs.Slots.{blank_info, blank_node, FreeRing, info_at, is_free, node_record_at, SlotFields, SlotLink}
use Rattle.cedar_slots.specs.Places.{PlaceFields, Sound}
use Rattle.cedar_slots.proofs.RingsLemmas.Ring.{Ring-frame}
use Rattle.cedar_slots.proofs.RingsLemmas.LinkedSlots.{member_free}

FreeRing-written : (old new : SlotFields) (b : ℕ) (xs : List ℕ) → ((s : ℕ) → is_free new.nodes s ≡ is_free old.nodes s) → ((s : ℕ) → is_free old.nodes s ≡ true → node_record_at new.nodes s ≡ node_record_at old.nodes s) → ((s : ℕ) → is_free old.nodes s ≡ true → info_at new.infos s ≡ info_at old.infos s) → FreeRing old.nodes old.infos b xs → FreeRing new.nodes new.infos b xs
FreeRing-written old new b xs free nodes infos ring = record {
  once = λ s. ring.once s ∙ ap (λ t. cond (t && eqb (s / 256) b) 1 0) (sym (free s));
  is_linked = Ring-frame (SlotLink old.nodes) (SlotLink new.nodes) xs (λ x y p q h.
      let x_same = nodes x (member_free old.nodes old.infos b xs ring x p).0 in
      let y_same = nodes y (member_free old.nodes old.infos b xs ring y q).0 in
      (ap (λ (n : NodeRecord). n.check) x_same ∙ h.0, ap (λ (n : NodeRecord). n.base) y_same ∙ h.1)) ring.is_linked;
  cleared = λ s p. infos s (member_free old.nodes old.infos b xs ring s p).0 ∙ ring.cleared s p;
}

Sound-written : (old : PlaceFields) (slots : SlotFields) → Sound old → length slots.nodes ≡ length old.slots.nodes → length slots.infos ≡ length old.slots.infos → ((s : ℕ) → is_free slots.nodes s ≡ is_free old.slots.nodes s) → ((s : ℕ) → is_free old.slots.nodes s ≡ true → node_record_at slots.nodes s ≡ node_record_at old.slots.nodes s) → ((s : ℕ) → is_free old.slots.nodes s ≡ true → info_at slots.infos s ≡ info_at old.slots.infos s) → ((s : ℕ) → 256 * old.blocks.active ≤ s → node_record_at slots.nodes s ≡ node_record_at old.slots.nodes s) → ((s : ℕ) → 256 * old.blocks.active ≤ s → info_at slots.infos s ≡ info_at old.slots.infos s) → Sound (record old { slots = slots })
Sound-written old slots sound nodes_len infos_len free nodes infos idle_nodes idle_infos = record {
  shaped = record { blocks = sound.shaped.blocks; nodes = nodes_len ∙ sound.shaped.nodes; infos = infos_len ∙ sound.shaped.infos ∙ sym nodes_len };
  doubled = sound.doubled;
  free = λ b b_in. let kept = sound.free b b_in in (
    kept.0,
    record { ring = FreeRing-written old.slots slots b kept.0 free nodes infos kept.1.ring; counted = kept.1.counted },
  );
  lists = sound.lists;
  pruned = sound.pruned;
  rejects = sound.rejects;
  inactive = record {
    nodes = λ s above. idle_nodes s above ∙ sound.inactive.nodes s above;
    infos = λ s above. idle_infos s above ∙ sound.inactive.infos s above;
    blocks = sound.inactive.blocks;
  };
}

module _ (old : PlaceFields) (sound : Sound old) (q : ℕ) (inside : q < 256 * old.blocks.active) (used : is_free old.slots.nodes q ≡ false) where
  apart : (s : ℕ) → is_free old.slots.nodes s ≡ true → s ≡ q → ⊥
  apart s free same = false≢true (sym used ∙ subst (λ n. is_free old.slots.nodes n ≡ true) same free)

  above_apart : (s : ℕ) → 256 * old.blocks.active ≤ s → s ≡ q → ⊥
  above_apart s above same = omega arith

  pub Sound-node : (node : NodeRecord) → (q ≡ 0) ⊎ (int_lt node.check (pos 0) ≡ false) → Sound (record old { slots = record old.slots { nodes = set old.slots.nodes q node } })
  Sound-node node still =
      let slots : SlotFields = record old.slots { nodes = set old.slots.nodes q node } in
      let other : (s : ℕ) → (s ≡ q → ⊥) → node_record_at slots.nodes s ≡ node_record_at old.slots.nodes s = λ s away. get_or-set_other old.slots.nodes q s node blank_node away in
      let here : node_record_at slots.nodes q ≡ node = get_or-set_same old.slots.nodes q node blank_node (omega (arith, sound.shaped.nodes, sound.shaped.blocks.active_in)) in
      Sound-written old slots sound (length-set old.slots.nodes q node) refl
      (λ s. elim (cases_eq s q) [
        | inl same ↦ subst (λ n. is_free slots.nodes n ≡ is_free old.slots.nodes n) (sym same) (not_free slots.nodes here still ∙ sym used)
        | inr away ↦ ap (λ (n : NodeRecord). not (eqb s 0) && int_lt n.check (pos 0)) (other s away)
      ])
      (λ s free. other s (apart s free)) (λ s free. refl) (λ s above. other s (above_apart s above)) (λ s above. refl)
    where
      not_free : (nodes : List NodeRecord) → node_record_at nodes q ≡ node → (q ≡ 0) ⊎ (int_lt node.check (pos 0) ≡ false) → is_free nodes q ≡ false
      not_free nodes here (inl root) = and_left _ _ (ap not (eq-eqb q 0 root))
      not_free nodes here (inr natural) = and_right _ _ (ap (λ (n : NodeRecord). int_lt n.check (pos 0)) here ∙ natural)

  pub Sound-info : (info : NInfoRecord) → Sound (record old { slots = record old.slots { infos = set old.slots.infos q info } })
  Sound-info info =
      let slots : SlotFields = record old.slots { infos = set old.slots.infos q info } in
      let other : (s : ℕ) → (s ≡ q → ⊥) → info_at slots.infos s ≡ info_at old.slots.infos s = λ s away. get_or-set_other old.slots.infos q s info blank_info away in
      Sound-written old slots sound refl (length-set old.slots.infos q info) (λ s. refl)
      (λ s free. refl) (λ s free. other s (apart s free)) (λ s above. refl) (λ s above. other s (above_apart s above))
