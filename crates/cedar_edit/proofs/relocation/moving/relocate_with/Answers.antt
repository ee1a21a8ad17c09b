use Rattle.std.proofs.Common.{◌≡◌, ◌<◌, ◌∙◌, ap, arith, refl, rules, subst, sym, get_or, take, bit_xor, true}
use Rattle.std.specs.Prelude.{pos}
use Rattle.std.proofs.lemmas.List.{take_all}
use Rattle.cedar_model.specs.Table.Cells.{Held, SameHeld}
use Rattle.cedar_model.specs.Meaning.Family.{below}
use Rattle.cedar_table.specs.Table.Views.{cells, fields}
use Rattle.cedar_model.specs.Table.TableFields.{size_of}
use Rattle.cedar_model.specs.Relocation.Renaming.{IsNode, OwnsNothing, Relocated, Renames, single}
use Rattle.cedar_model.specs.Relocation.Reserved.{cells_without, without_reserved}
use Rattle.cedar_model.proofs.UpdateLemmas.Frame.{frame_same, frame_then}
use Rattle.cedar_model.proofs.RelocationLemmas.OneTurn.{among_get}
use Rattle.cedar_model.proofs.RelocationLemmas.KeptSlot.{freed_root}
use Rattle.cedar_model.proofs.RelocationLemmas.MovedAround.{moved_other, new_apart, new_free, Ready, ready, reserved_all, reserved_now, Reserving, reserving_held, reserving_none}
use Rattle.cedar_edit.proofs.relocation.moving.relocate_with.Goals as goal
use Rattle.cedar_edit.proofs.relocation.moving.relocate_with.Goals.{After-set_base}

pub loop-other-init : goal.loop-other-init
loop-other-init g c = record { sound = c.requires.sound; reserving = reserving_none _ _ _ _; frame = frame_same _ }

pub reserve-reserved-requires : goal.reserve-reserved-requires
reserve-reserved-requires g c =
    let T = cells c.args.table.now in
    let T₁ = cells c.loop-other.table in
    let n = size_of (fields c.args.table.now) in
    let ls = c.args.labels.now in let i = c.loop-other.other-index in let p = c.args.parent in let b = c.args.new_base in let k = bit_xor b c.args.label in
    let place = c.requires.place in
    let r = c.loop-other.invariant.reserving in
    let slot : bit_xor b c.from.result ≡ k = ap (bit_xor b) c.from.ensures in
    let size : size_of (fields c.loop-other.table) ≡ n = c.loop-other.invariant.frame.size in (
      search rules,
      record {
        sound = c.loop-other.invariant.sound;
        slot_in = subst (λ s. s < size_of (fields c.loop-other.table)) (sym slot) (subst (λ m. k < m) (sym size) place.in_use);
        not_root = λ z. omega (arith, place.not_first, slot, z);
        slot_free = λ e. subst (λ s. Held T₁ s → ⊥) (sym slot) (new_free T T₁ p b c.args.label _ ls i c.requires.new place.free r e);
        marked = λ e. ap T₁.check slot ∙ r.marked e;
      },
    )

pub move_slot-requires : goal.move_slot-requires
move_slot-requires g c =
    let T = cells c.args.table.now in
    let T₁ = cells c.loop-other.table in
    let n = size_of (fields c.args.table.now) in
    let ls = c.args.labels.now in let i = c.loop-other.other-index in let p = c.args.parent in let b = c.args.new_base in let k = bit_xor b c.args.label in
    let place = c.requires.place in
    let r = c.loop-other.invariant.reserving in
    let slot : bit_xor b c.from.result ≡ k = ap (bit_xor b) c.from.ensures in
    let size : size_of (fields c.loop-other.table) ≡ n = c.loop-other.invariant.frame.size in
    let T₂ = cells c.reserve-reserved.new.table in
    let was = c.loop-other.reserved in
    let is = c.reserve-reserved.result in
    let r₂ : Reserving T T₂ p b k is (take i ls) = reserved_now T T₁ T₂ p b k was is (take i ls) r (subst (λ s. SameHeld (without_reserved was T₁ s) (without_reserved is T₂ s)) slot c.reserve-reserved.ensures.seen) (λ e. ap T₂.check (sym slot) ∙ c.reserve-reserved.ensures.marked e) in
    let h = c.loop-other-test.true in
    let m = c.requires.movable in
    let not_root : k ≡ 0 → ⊥ = λ z. omega (arith, place.not_first, z) in
    let apart = new_apart b c.args.label ls i h c.requires.new in
    let size₂ : size_of (fields c.reserve-reserved.new.table) ≡ n = c.reserve-reserved.ensures.frame.size ∙ size in
    let label : c.from-in-loop-other.result ≡ get_or ls i 0 = search rules in
    let label₂ : c.from-in-loop-other-2.result ≡ get_or ls i 0 = search rules in
    let e : bit_xor c.base_of-old_base.result c.from-in-loop-other.result ≡ below T p (get_or ls i 0) = ap (λ x. bit_xor x c.from-in-loop-other.result) c.base_of-old_base.ensures ∙ ap (below T p) label in
    let y : Ready n T₂ (below T p (get_or ls i 0)) (bit_xor b (get_or ls i 0)) p (get_or ls i 0) = ready n T T₂ p b k ls i is m h r₂ not_root apart in (
      search rules,
      record {
        sound = c.reserve-reserved.ensures.sound;
        from_in = subst (λ x. x < size_of (fields c.reserve-reserved.new.table)) (sym e) (subst (λ x. below T p (get_or ls i 0) < x) (sym size₂) (m.old_within _ (among_get ls i 0 h)));
        to_in = subst (λ x. bit_xor b x < size_of (fields c.reserve-reserved.new.table)) (sym label₂) (subst (λ x. bit_xor b (get_or ls i 0) < x) (sym size₂) (m.new_within _ (among_get ls i 0 h)));
        owner_in = subst (λ x. p < x) (sym size₂) c.requires.parent_in;
        mine = ap T₂.check e ∙ y.mine;
        not_own = λ o. y.not_own (o ∙ e);
        free = λ o. y.free (subst (λ x. Held T₂ (bit_xor b x)) label₂ o);
        root = y.root;
        node = λ z. subst (λ x. IsNode (size_of (fields c.reserve-reserved.new.table)) T₂ x) (sym e) (subst (λ x. IsNode x T₂ (below T p (get_or ls i 0))) (sym size₂) (y.node z));
        alone = λ z. subst (λ x. OwnsNothing T₂ x) (sym e) (y.alone z);
      },
    )

pub loop-other-preserved : goal.loop-other-preserved
loop-other-preserved g c =
    let T = cells c.args.table.now in
    let T₁ = cells c.loop-other.table in
    let n = size_of (fields c.args.table.now) in
    let ls = c.args.labels.now in let i = c.loop-other.other-index in let p = c.args.parent in let b = c.args.new_base in let k = bit_xor b c.args.label in
    let place = c.requires.place in
    let r = c.loop-other.invariant.reserving in
    let slot : bit_xor b c.from.result ≡ k = ap (bit_xor b) c.from.ensures in
    let size : size_of (fields c.loop-other.table) ≡ n = c.loop-other.invariant.frame.size in
    let T₂ = cells c.reserve-reserved.new.table in
    let was = c.loop-other.reserved in
    let is = c.reserve-reserved.result in
    let r₂ : Reserving T T₂ p b k is (take i ls) = reserved_now T T₁ T₂ p b k was is (take i ls) r (subst (λ s. SameHeld (without_reserved was T₁ s) (without_reserved is T₂ s)) slot c.reserve-reserved.ensures.seen) (λ e. ap T₂.check (sym slot) ∙ c.reserve-reserved.ensures.marked e) in
    let h = c.loop-other-test.true in
    let m = c.requires.movable in
    let not_root : k ≡ 0 → ⊥ = λ z. omega (arith, place.not_first, z) in
    let apart = new_apart b c.args.label ls i h c.requires.new in
    let size₂ : size_of (fields c.reserve-reserved.new.table) ≡ n = c.reserve-reserved.ensures.frame.size ∙ size in
    let label : c.from-in-loop-other.result ≡ get_or ls i 0 = search rules in
    let label₂ : c.from-in-loop-other-2.result ≡ get_or ls i 0 = search rules in
    let e : bit_xor c.base_of-old_base.result c.from-in-loop-other.result ≡ below T p (get_or ls i 0) = ap (λ x. bit_xor x c.from-in-loop-other.result) c.base_of-old_base.ensures ∙ ap (below T p) label in
    let T₃ = cells c.move_slot.new.table in
    let renamed : Renames T₂ T₃ (single (below T p (get_or ls i 0)) (bit_xor b (get_or ls i 0))) =
    subst (λ x. Renames T₂ T₃ (single x (bit_xor b (get_or ls i 0)))) e
    (subst (λ x. Renames T₂ T₃ (single (bit_xor c.base_of-old_base.result c.from-in-loop-other.result) (bit_xor b x))) label₂ c.move_slot.ensures.renamed) in
    record {
      sound = c.move_slot.ensures.sound;
      reserving = moved_other n T T₂ p b k ls i is m h r₂ not_root apart T₃ renamed;
      frame = frame_then _ _ _ c.loop-other.invariant.frame (frame_then _ _ _ c.reserve-reserved.ensures.frame c.move_slot.ensures.frame);
    }

pub reserve-requires : goal.reserve-requires
reserve-requires g c =
    let T = cells c.args.table.now in
    let T₁ = cells c.loop-other.table in
    let n = size_of (fields c.args.table.now) in
    let ls = c.args.labels.now in let i = c.loop-other.other-index in let p = c.args.parent in let b = c.args.new_base in let k = bit_xor b c.args.label in
    let place = c.requires.place in
    let r = c.loop-other.invariant.reserving in
    let slot : bit_xor b c.from.result ≡ k = ap (bit_xor b) c.from.ensures in
    let size : size_of (fields c.loop-other.table) ≡ n = c.loop-other.invariant.frame.size in (
      search rules,
      record {
        sound = c.loop-other.invariant.sound;
        slot_in = subst (λ s. s < size_of (fields c.loop-other.table)) (sym slot) (subst (λ m. k < m) (sym size) place.in_use);
        not_root = λ z. omega (arith, place.not_first, slot, z);
        slot_free = λ e. subst (λ s. Held T₁ s → ⊥) (sym slot) (new_free T T₁ p b c.args.label _ ls i c.requires.new place.free r e);
        marked = λ e. ap T₁.check slot ∙ r.marked e;
      },
    )

pub set_base-requires : goal.set_base-requires
set_base-requires g c =
    let T = cells c.args.table.now in
    let T₁ = cells c.loop-other.table in
    let n = size_of (fields c.args.table.now) in
    let ls = c.args.labels.now in let i = c.loop-other.other-index in let p = c.args.parent in let b = c.args.new_base in let k = bit_xor b c.args.label in
    let place = c.requires.place in
    let r = c.loop-other.invariant.reserving in
    let slot : bit_xor b c.from.result ≡ k = ap (bit_xor b) c.from.ensures in
    let size : size_of (fields c.loop-other.table) ≡ n = c.loop-other.invariant.frame.size in
    let T₂ = cells c.reserve.new.table in
    let was = c.loop-other.reserved in
    let is = c.reserve.result in
    let r₂ : Reserving T T₂ p b k is (take i ls) = reserved_now T T₁ T₂ p b k was is (take i ls) r (subst (λ s. SameHeld (without_reserved was T₁ s) (without_reserved is T₂ s)) slot c.reserve.ensures.seen) (λ e. ap T₂.check (sym slot) ∙ c.reserve.ensures.marked e) in
    let m = c.requires.movable in
    let size₂ : size_of (fields c.reserve.new.table) ≡ n = c.reserve.ensures.frame.size ∙ size in
    (search rules, (c.reserve.ensures.sound, (subst (λ x. p < x) (sym size₂) c.requires.parent_in, (subst (λ x. b < x) (sym size₂) m.parent.high, (reserving_held n T T₂ p b k ls _ is m r₂, m.parent.not_root)))))

-- the set has moved
all_moved : (g : _) (c : After-set_base g) → Relocated (size_of (fields c.args.table.now)) (cells c.args.table.now) (cells_without (cells c.set_base.new.self) (bit_xor c.args.new_base c.args.label)) c.args.parent c.args.new_base × ((cells c.set_base.new.self).check (bit_xor c.args.new_base c.args.label) ≡ pos 0)
all_moved g c =
    let T = cells c.args.table.now in
    let T₁ = cells c.loop-other.table in
    let n = size_of (fields c.args.table.now) in
    let ls = c.args.labels.now in let i = c.loop-other.other-index in let p = c.args.parent in let b = c.args.new_base in let k = bit_xor b c.args.label in
    let place = c.requires.place in
    let r = c.loop-other.invariant.reserving in
    let slot : bit_xor b c.from.result ≡ k = ap (bit_xor b) c.from.ensures in
    let size : size_of (fields c.loop-other.table) ≡ n = c.loop-other.invariant.frame.size in
    let T₂ = cells c.reserve.new.table in
    let was = c.loop-other.reserved in
    let is = c.reserve.result in
    let r₂ : Reserving T T₂ p b k is (take i ls) = reserved_now T T₁ T₂ p b k was is (take i ls) r (subst (λ s. SameHeld (without_reserved was T₁ s) (without_reserved is T₂ s)) slot c.reserve.ensures.seen) (λ e. ap T₂.check (sym slot) ∙ c.reserve.ensures.marked e) in
    let all : take i ls ≡ ls = search (rules, take_all) in
    let is_reserved : is ≡ true = c.reserve.ensures.now refl in
    reserved_all n T T₂ (cells c.set_base.new.self) p b k ls c.requires.movable (subst (λ d. Reserving T T₂ p b k d ls) is_reserved (subst (λ gone. Reserving T T₂ p b k is gone) all r₂)) c.set_base.ensures.rebased

pub returns-clause-relocated : goal.returns-clause-relocated
returns-clause-relocated g c = (all_moved g c).0

pub returns-clause-reserved : goal.returns-clause-reserved
returns-clause-reserved g c = (all_moved g c).1

pub returns-clause-root_check : goal.returns-clause-root_check
returns-clause-root_check g c =
    let not_root : bit_xor c.args.new_base c.args.label ≡ 0 → ⊥ = λ z. omega (arith, c.requires.place.not_first, z) in
    sym (freed_root (cells c.set_base.new.self) (bit_xor c.args.new_base c.args.label) not_root) ∙ (all_moved g c).0.renamed.root_check

pub returns-clause-frame : goal.returns-clause-frame
returns-clause-frame g c = frame_then _ _ _ c.loop-other.invariant.frame (frame_then _ _ _ c.reserve.ensures.frame c.set_base.ensures.frame)
