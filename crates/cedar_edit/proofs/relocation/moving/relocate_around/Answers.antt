use Rattle.std.proofs.Common.{◌≡◌, ◌<◌, ◌∙◌, ap, rules, subst, sym, get_or, take, bit_xor}
use Rattle.std.specs.Prelude.{pos}
use Rattle.std.proofs.lemmas.List.{take_all}
use Rattle.cedar_model.specs.Table.Cells.{Held}
use Rattle.cedar_model.specs.Meaning.Family.{below}
use Rattle.cedar_table.specs.Table.Views.{cells, fields}
use Rattle.cedar_model.specs.Table.TableFields.{size_of}
use Rattle.cedar_model.specs.Relocation.Renaming.{IsNode, OwnsNothing, Relocated, Renames, single}
use Rattle.cedar_model.specs.Relocation.Reserved.{cells_without}
use Rattle.cedar_model.proofs.UpdateLemmas.Frame.{frame_same, frame_then}
use Rattle.cedar_model.proofs.RelocationLemmas.OneTurn.{among_get}
use Rattle.cedar_model.proofs.RelocationLemmas.KeptSlot.{freed_root}
use Rattle.cedar_model.proofs.RelocationLemmas.MovedAround.{pass_ready, passed, passed_all, passing_held, passing_none, Passing}
use Rattle.cedar_edit.proofs.relocation.moving.relocate_around.Goals as goal
use Rattle.cedar_edit.proofs.relocation.moving.relocate_around.Goals.{After-set_base}

pub loop-label-init : goal.loop-label-init
loop-label-init g c = record { sound = c.requires.sound; passing = passing_none _ _ _ _; frame = frame_same _ }

pub pass_slot-requires : goal.pass_slot-requires
pass_slot-requires g c =
    let T = cells c.args.table.now in
    let T₁ = cells c.loop-label.table in
    let n = size_of (fields c.args.table.now) in
    let ls = c.args.labels.now in let i = c.loop-label.label-index in let p = c.args.parent in let b = c.args.base in
    let m = c.requires.movable in let h = c.loop-label-test.true in
    let y = pass_ready n T T₁ p b c.args.wanted ls i m h c.loop-label.invariant.passing c.requires.mine in
    let size : size_of (fields c.loop-label.table) ≡ n = c.loop-label.invariant.frame.size in
    let label : c.from.result ≡ get_or ls i 0 = search rules in
    let label₂ : c.from-in-loop-label.result ≡ get_or ls i 0 = search rules in
    let e : bit_xor c.base_of-old_base.result c.from.result ≡ below T p (get_or ls i 0) = ap (λ x. bit_xor x c.from.result) c.base_of-old_base.ensures ∙ ap (below T p) label in (
      search rules,
      record {
        sound = c.loop-label.invariant.sound;
        from_in = subst (λ x. x < size_of (fields c.loop-label.table)) (sym e) (subst (λ x. below T p (get_or ls i 0) < x) (sym size) (m.old_within _ (among_get ls i 0 h)));
        to_in = subst (λ x. bit_xor b x < size_of (fields c.loop-label.table)) (sym label₂) (subst (λ x. bit_xor b (get_or ls i 0) < x) (sym size) (m.new_within _ (among_get ls i 0 h)));
        owner_in = subst (λ x. p < x) (sym size) c.requires.parent_in;
        mine = ap T₁.check e ∙ y.mine;
        not_own = λ o. y.not_own (o ∙ e);
        free = λ o. y.free (subst (λ x. Held T₁ (bit_xor b x)) label₂ o);
        root = y.root;
        node = λ z. subst (λ x. IsNode (size_of (fields c.loop-label.table)) T₁ x) (sym e) (subst (λ x. IsNode x T₁ (below T p (get_or ls i 0))) (sym size) (y.node z));
        alone = λ z. subst (λ x. OwnsNothing T₁ x) (sym e) (y.alone z);
      },
    )

pub loop-label-preserved : goal.loop-label-preserved
loop-label-preserved g c =
    let T = cells c.args.table.now in
    let T₁ = cells c.loop-label.table in
    let T₂ = cells c.pass_slot.new.table in
    let n = size_of (fields c.args.table.now) in
    let ls = c.args.labels.now in let i = c.loop-label.label-index in let p = c.args.parent in let b = c.args.base in let k = c.args.wanted in
    let label : c.from.result ≡ get_or ls i 0 = search rules in
    let label₂ : c.from-in-loop-label.result ≡ get_or ls i 0 = search rules in
    let e : bit_xor c.base_of-old_base.result c.from.result ≡ below T p (get_or ls i 0) = ap (λ x. bit_xor x c.from.result) c.base_of-old_base.ensures ∙ ap (below T p) label in
    let wanted : (below T p (get_or ls i 0) ≡ k) → Renames T₁ (cells_without T₂ k) (single (below T p (get_or ls i 0)) (bit_xor b (get_or ls i 0))) × (T₂.check k ≡ pos 0) =
    subst (λ x. (x ≡ k) → Renames T₁ (cells_without T₂ k) (single x (bit_xor b (get_or ls i 0))) × (T₂.check k ≡ pos 0)) e
    (subst (λ x. (bit_xor c.base_of-old_base.result c.from.result ≡ k) → Renames T₁ (cells_without T₂ k) (single (bit_xor c.base_of-old_base.result c.from.result) (bit_xor b x)) × (T₂.check k ≡ pos 0)) label₂ c.pass_slot.ensures.passed) in
    let other : (below T p (get_or ls i 0) ≡ k → ⊥) → Renames T₁ T₂ (single (below T p (get_or ls i 0)) (bit_xor b (get_or ls i 0))) =
    subst (λ x. (x ≡ k → ⊥) → Renames T₁ T₂ (single x (bit_xor b (get_or ls i 0)))) e
    (subst (λ x. (bit_xor c.base_of-old_base.result c.from.result ≡ k → ⊥) → Renames T₁ T₂ (single (bit_xor c.base_of-old_base.result c.from.result) (bit_xor b x))) label₂ c.pass_slot.ensures.kept) in
    record {
      sound = c.pass_slot.ensures.sound;
      passing = passed n T T₁ p b k ls i c.requires.movable c.loop-label-test.true c.loop-label.invariant.passing c.requires.mine T₂ wanted other;
      frame = frame_then _ _ _ c.loop-label.invariant.frame c.pass_slot.ensures.frame;
    }

pub set_base-requires : goal.set_base-requires
set_base-requires g c =
    let size = c.loop-label.invariant.frame.size in
    let m = c.requires.movable in
    (search rules, (c.loop-label.invariant.sound, (subst (λ x. c.args.parent < x) (sym size) c.requires.parent_in, (subst (λ x. c.args.base < x) (sym size) m.parent.high, (passing_held _ _ _ _ _ _ _ _ m c.loop-label.invariant.passing, m.parent.not_root)))))

-- the set has moved
all_passed : (g : _) (c : After-set_base g) → Relocated (size_of (fields c.args.table.now)) (cells c.args.table.now) (cells_without (cells c.set_base.new.self) c.args.wanted) c.args.parent c.args.base × ((cells c.set_base.new.self).check c.args.wanted ≡ pos 0)
all_passed g c =
    let T = cells c.args.table.now in
    let T₁ = cells c.loop-label.table in
    let ls = c.args.labels.now in
    let all : take c.loop-label.label-index ls ≡ ls = search (rules, take_all) in
    passed_all _ T T₁ (cells c.set_base.new.self) c.args.parent c.args.base c.args.wanted ls c.requires.movable c.requires.mine
    (subst (λ gone. Passing T T₁ c.args.parent c.args.base c.args.wanted gone) all c.loop-label.invariant.passing) c.set_base.ensures.rebased

pub returns-clause-relocated : goal.returns-clause-relocated
returns-clause-relocated g c = (all_passed g c).0

pub returns-clause-reserved : goal.returns-clause-reserved
returns-clause-reserved g c = (all_passed g c).1

pub returns-clause-root_check : goal.returns-clause-root_check
returns-clause-root_check g c =
    let not_root : c.args.wanted ≡ 0 → ⊥ = λ e. c.requires.movable.parent.root c.args.parent (subst (λ x. (cells c.args.table.now).check x ≡ pos c.args.parent) e c.requires.mine) in
    sym (freed_root (cells c.set_base.new.self) c.args.wanted not_root) ∙ (all_passed g c).0.renamed.root_check

pub returns-clause-frame : goal.returns-clause-frame
returns-clause-frame g c = frame_then _ _ _ c.loop-label.invariant.frame c.set_base.ensures.frame
