use Rattle.std.proofs.Common.{rules, ◌≡◌, ◌≢◌, ◌∙◌, ap, arith, inl, inr, subst, of_z, to_z, refl, w32, FitsSigned, Some}
use Rattle.std.specs.Prelude.{List, ℕ, ℤ, OnOk}
use Rattle.std.proofs.lemmas.Int.{to_z-of_z}
use Rattle.cedar_model.specs.Tree.{Forest}
use Rattle.cedar_model.specs.Edits.{edit_at}
use Rattle.cedar_model.specs.declared.layout.Stored.TheVariants.{OwnNumber}
use Rattle.cedar_model.specs.Edit.NodeEdits.{IsAt}
use Rattle.cedar_model.specs.Meaning.Family.{base_in}
use Rattle.cedar_model.specs.Meaning.StandsFor.{HoldsTree}
use Rattle.cedar_table.specs.Table.Views.{cells, fields}
use Rattle.cedar_model.specs.Table.TableFields.{size_of}
use Rattle.cedar_model.specs.Meaning.WellFormed.{is_value}
use Rattle.cedar_model.proofs.UpdateLemmas.BlocksMade.{framed_none, growth_none}
use Rattle.cedar_model.proofs.EditLemmas.OwnNumber.{field_paths, kind_is, own_reduced, spare_past}
use Rattle.cedar_model.proofs.EditLemmas.NumberMovesOut.{leaf_alone}
use Rattle.cedar_model.proofs.UpdateLemmas.MarksAfterPut.{own_put}
use Rattle.cedar_model.proofs.UpdateLemmas.StepAnswers.{on_success}
use Rattle.cedar_edit.proofs.LeafLemmas.{kept_checks}
use Rattle.cedar_edit.proofs.keys.step.put_number.Goals as goal

pub set_own_number-requires : goal.set_own_number-requires
set_own_number-requires g c =
    let n = c.requires.node in
    let keeps = c.keeps_own.ensures.0 c.if-keeps_own.true in
    let alone = leaf_alone (size_of (fields c.args.table.now)) (cells c.args.table.now) n.0 n.1.path c.args.node n.1.holds n.1.at c.requires.not_root keeps.1 in
    let fits : FitsSigned w32 c.args.value = search rules in
    let same : to_z w32 (of_z w32 c.args.value) ≡ c.args.value = to_z-of_z w32 c.args.value fits in
    (search rules, (c.requires.sound, (c.requires.node_in, (c.requires.not_root, (n, (alone, (keeps.0, ap is_value same ∙ c.requires.value)))))))

pub returns-then-keeps_own-clause-set : goal.returns-then-keeps_own-clause-set
returns-then-keeps_own-clause-set g c = λ f w h on.
    let fits : FitsSigned w32 c.args.value = search rules in
    let same : to_z w32 (of_z w32 c.args.value) ≡ c.args.value = to_z-of_z w32 c.args.value fits in
    subst (λ z. HoldsTree (size_of (fields c.set_own_number.new.self)) (cells c.set_own_number.new.self) (edit_at w (λ _. Some z) (λ u. u) f)) same (c.set_own_number.ensures.tree f w h on)

pub returns-then-keeps_own-clause-step : goal.returns-then-keeps_own-clause-step
returns-then-keeps_own-clause-step g c = record { refused = tt; unchanged = tt; growth = growth_none (fields c.args.table.now) (fields c.set_own_number.new.self) c.set_own_number.ensures.frame (c.set_own_number.ensures.set.check 0) }

pub returns-then-keeps_own-clause-owned : goal.returns-then-keeps_own-clause-owned
returns-then-keeps_own-clause-owned g c = λ _. (tt, framed_none (fields c.args.table.now) (fields c.set_own_number.new.self) c.set_own_number.ensures.frame)

pub returns-then-keeps_own-clause-own : goal.returns-then-keeps_own-clause-own
returns-then-keeps_own-clause-own g c = λ _ _. (tt, framed_none (fields c.args.table.now) (fields c.set_own_number.new.self) c.set_own_number.ensures.frame)

pub returns-then-keeps_own-clause-leaf : goal.returns-then-keeps_own-clause-leaf
returns-then-keeps_own-clause-leaf g c = λ _. inl (tt, framed_none (fields c.args.table.now) (fields c.set_own_number.new.self) c.set_own_number.ensures.frame)

pub put_in_slot-requires : goal.put_in_slot-requires
put_in_slot-requires g c =
    let no_own : (v : ℤ) → (cells c.args.table.now).stored c.args.node ≢ OwnNumber v = λ v e.
    let yes = c.keeps_own.ensures.1 (own_reduced g.L.Layout.kind _ v e, ap base_in e) in
    let no = c.if-keeps_own.false in
    cc in
    (search rules, record { sound = c.requires.sound; node_in = c.requires.node_in; not_root = c.requires.not_root; node = c.requires.node; no_own_number = no_own })

pub returns-clause-set : goal.returns-clause-set
returns-clause-set g c =
    let fits : FitsSigned w32 c.args.value = search rules in
    let same : to_z w32 (of_z w32 c.args.value) ≡ c.args.value = to_z-of_z w32 c.args.value fits in
    subst (λ z. OnOk c.put_in_slot.result ((f : Forest) (w : List ℕ) → HoldsTree (size_of (fields c.args.table.now)) (cells c.args.table.now) f → IsAt (cells c.args.table.now) w c.args.node
    → HoldsTree (size_of (fields c.put_in_slot.new.table)) (cells c.put_in_slot.new.table) (edit_at w (λ _. Some z) (λ u. u) f))) same c.put_in_slot.ensures.set

pub returns-clause-own : goal.returns-clause-own
returns-clause-own g c = λ v e.
    let yes = c.keeps_own.ensures.1 (own_reduced g.L.Layout.kind _ v e, ap base_in e) in
    let no = c.if-keeps_own.false in
    absurd (cc)

pub returns-clause-leaf : goal.returns-clause-leaf
returns-clause-leaf g c = λ bare. elim (kind_is g.L.Layout.kind) [
  | inl default ↦ elim (c.put_in_slot.ensures.leaf bare) [ inl made ↦ inl made | inr full ↦ inr (default, full) ]
  | inr reduced ↦
      let yes = c.keeps_own.ensures.1 (reduced, ap base_in bare) in
      let no = c.if-keeps_own.false in
      absurd (cc)
]

pub returns-then-keeps_own-clause-marks : goal.returns-then-keeps_own-clause-marks
returns-then-keeps_own-clause-marks g c = λ other.
    let keeps = c.keeps_own.ensures.0 c.if-keeps_own.true in
    absurd (other keeps.0 keeps.1)

pub returns-then-keeps_own-clause-marks_own : goal.returns-then-keeps_own-clause-marks_own
returns-then-keeps_own-clause-marks_own g c = λ reduced none_there.
    let n = c.requires.node.1 in
    let T = fields c.args.table.now in
    let alone = leaf_alone (size_of T) (cells c.args.table.now) _ n.path c.args.node n.holds n.at c.requires.not_root none_there in
    own_put (cells c.args.table.now) (cells c.set_own_number.new.self) c.args.node _ alone c.set_own_number.ensures.set
    (field_paths (size_of T) (cells c.args.table.now) (cells c.set_own_number.new.self) _ n.path c.args.node (size_of T) _ _ n.holds n.at c.requires.not_root alone c.set_own_number.ensures.set (spare_past T (omega (arith, c.requires.node_in))) (inl (_, refl, refl)))

pub returns-clause-marks : goal.returns-clause-marks
returns-clause-marks g c = on_success c.put_in_slot.result _ _ (λ k _. k) c.put_in_slot.ensures.marks

pub returns-clause-marks_own : goal.returns-clause-marks_own
returns-clause-marks_own g c =
    let no = c.if-keeps_own.false in
    on_success c.put_in_slot.result _ _ (λ _ reduced none_there. let yes = c.keeps_own.ensures.1 (reduced, none_there) in absurd (cc)) c.put_in_slot.ensures.marks

pub returns-then-keeps_own-clause-single : goal.returns-then-keeps_own-clause-single
returns-then-keeps_own-clause-single g c = λ _. record {
  keeps = λ x h. kept_checks (cells c.args.table.now) (cells c.set_own_number.new.self) c.set_own_number.ensures.set.check x h;
  one = inl (framed_none (fields c.args.table.now) (fields c.set_own_number.new.self) c.set_own_number.ensures.frame);
}
