use Rattle.std.proofs.Common.{FitsSigned, inl, inr, of_z, refl, rules, to_z, w32, subst, sym, ap, ◌∙◌, ◌+◌, ◌*◌, arith, ◌≡◌}
use Rattle.std.proofs.lemmas.Int.{to_z-of_z}
use Rattle.std.specs.Prelude.{Err, is_some, Some}
use Rattle.cedar_model.specs.Tree.{number_at}
use Rattle.cedar_model.specs.Edits.{edit_at}
use Rattle.cedar_model.specs.Edit.KeyWalk.{TakenBack}
use Rattle.cedar_model.specs.Meaning.Marks.{KeepsMarks, NewMark}
use Rattle.cedar_model.specs.Meaning.StandsFor.{HoldsTree}
use Rattle.cedar_model.specs.Meaning.WellFormed.{cells_in, is_value, tree_of}
use Rattle.cedar_table.specs.Table.Views.{fields}
use Rattle.cedar_model.specs.Table.TableFields.{size_of}
use Rattle.cedar_model.proofs.MeaningLemmas.NodeAtPath.{at_node}
use Rattle.cedar_model.proofs.UpdateLemmas.MarksAfterUpdate.{new_mark, put_keeps}
use Rattle.cedar_model.proofs.UpdateLemmas.StepAnswers.{on_refusal}
use Rattle.cedar_model.proofs.UpdateLemmas.Ending.{entries_fit, is_put, IsPut, no_more, not_root, number_before, one_more, put_refused}
use Rattle.cedar_model.proofs.UpdateLemmas.AlongKey.{node_walked, walked_same}
use Rattle.cedar_model.specs.Edit.Packing.{joins, StaysSmall}
use Rattle.cedar_edit.proofs.PackingLemmas.{number_small}
use Rattle.cedar_edit.proofs.PutLemmas.{done_put, refused_put}
use Rattle.cedar_edit.proofs.StepLemmas.{on_no_refusal}
use Rattle.cedar_edit.proofs.keys.put.put_along.Goals as goal

pub returns-in_err-end-clause-puts : goal.returns-in_err-end-clause-puts
returns-in_err-end-clause-puts g c =
    refused_put g.row.SLOTS (fields c.args.table.now) (fields c.walk_in.new.table) c.args.key.now c.args.value c.from_residual.result c.in_err-end.field-0.0 c.from_residual.ensures.1 c.in_err-end.ensures.refused

pub number_of-held-requires : goal.number_of-held-requires
number_of-held-requires g c =
    let k = c.in_ok-end.ensures.walked in
    (search rules, (k.inside, (_, at_node _ _ k.forest c.args.key.now c.in_ok-end.end k.holds k.at)))

pub put_number-requires : goal.put_number-requires
put_number-requires g c =
    let k = c.in_ok-end.ensures.walked in
    let mid = fields c.walk_in.new.table in
    let fits : FitsSigned w32 c.args.value = search rules in
    let same : to_z w32 (of_z w32 c.args.value) ≡ c.args.value = to_z-of_z w32 c.args.value fits in
    (search rules, record { sound = k.table; node_in = k.inside; not_root = not_root g.row.SLOTS (fields c.args.table.now) mid c.args.key.now c.in_ok-end.end c.requires.well_formed c.requires.key k; node = node_walked _ _ _ _ _ _ _ k; value = ap is_value same ∙ c.requires.value })

pub trim-requires : goal.trim-requires
trim-requires g c =
    let e = c.in-Err.ensures in
    let k = walked_same g.row.SLOTS (fields c.args.table.now) (fields c.walk_in.new.table) (fields c.put_number.new.table) _ _ _ c.in_ok-end.end c.in_ok-end.ensures.walked (λ _. g.L.Layout.kind) e.sound e.step.unchanged e.step.growth.settings in
    (search rules, (k.table, (k.inside, node_walked _ _ _ _ _ _ _ k)))

-- the number was refused
refused : (g : _) (c : goal.After-trim g) → TakenBack g.row.SLOTS (fields c.args.table.now) (fields c.trim.new.table) c.args.key.now c.in-Err.error
refused g c =
    let e = c.in-Err.ensures in
    let t = c.trim.ensures in
    put_refused g.row.SLOTS (fields c.args.table.now) (fields c.walk_in.new.table) c.args.key.now c.in_ok-end.end c.requires.well_formed c.requires.key c.in_ok-end.ensures.walked
    (fields c.put_number.new.table) (fields c.trim.new.table) c.in-Err.error
    (record { layout = λ _. g.L.Layout.kind; table = e.sound; unchanged = e.step.unchanged; settings = e.step.growth.settings; refused = e.step.refused })
    (record { table = t.sound; tree = t.tree; root_check = t.root_check; frame = t.frame; marks = t.marks })
    (λ own. (e.owned own).0) (λ v own. (e.own v own).0) (λ leaf. elim (e.leaf leaf) [ inl never ↦ absurd never.0 | inr full ↦ full ])

pub returns-in-Err-clause-puts : goal.returns-in-Err-clause-puts
returns-in-Err-clause-puts g c = refused_put g.row.SLOTS (fields c.args.table.now) (fields c.trim.new.table) c.args.key.now c.args.value (Err c.in-Err.error) c.in-Err.error refl (refused g c)

pub overflow_add-entries : goal.overflow_add-entries
overflow_add-entries g c =
    let most = entries_fit g.row.SLOTS (fields c.args.table.now) c.requires.well_formed in
    let mid : c.walk_in.new.table.entries ≡ c.args.table.now.entries = c.in_ok-end.ensures.walked.settings.entries in
    let new : c.put_number.new.table.entries ≡ c.walk_in.new.table.entries = c.in_default.ensures.step.growth.settings.entries in
    omega (arith, most, mid, new, c.entries.ensures)

-- the number is put, and counted
put_new : (g : _) (c : goal.After-set_entries g) → IsPut g.row.SLOTS (fields c.args.table.now) (fields c.set_entries.new.self) c.args.key.now c.args.value
put_new g c =
    let e = c.in_default.ensures in
    let old = fields c.args.table.now in let mid = fields c.walk_in.new.table in let new = fields c.put_number.new.table in
    let k = c.in_ok-end.ensures.walked in
    let well = c.requires.well_formed in let key = c.args.key.now in
    let fits : FitsSigned w32 c.args.value = search rules in
    let same : to_z w32 (of_z w32 c.args.value) ≡ c.args.value = to_z-of_z w32 c.args.value fits in
    let had : c.number_of-held.result ≡ number_at (tree_of old) key = number_before g.row.SLOTS old mid key c.in_ok-end.end well c.requires.key k c.number_of-held.result
    (λ f w h at. c.number_of-held.ensures _ (at_node _ _ f w c.in_ok-end.end h at)) in
    subst (λ T. IsPut g.row.SLOTS old T key c.args.value) (sym c.set_entries.ensures) (is_put g.row.SLOTS old mid key c.in_ok-end.end well c.requires.key k new c.args.value (c.entries.result + 1) c.requires.value
    (record { table = e.sound; set = λ f w h at. subst (λ v. HoldsTree (size_of new) (cells_in new) (edit_at w (λ _. Some v) (λ u. u) f)) same (e.set f w h at); blocks = e.step.growth.blocks; owned = λ own. (e.owned own).1; own = λ v own. (e.own v own).1; leaf = λ is. elim (e.leaf is) [ inl none ↦ inl none.1 | inr full ↦ inr full ]; root_check = e.step.growth.root_check; settings = e.step.growth.settings })
    (ap (λ n. n + 1) c.entries.ensures ∙ one_more _ _ _ (sym (ap is_some had) ∙ c.is_none-is_new.ensures) c.if-is_new.true))

-- few blocks were made
small_new : (g : _) (c : goal.After-set_entries g) → StaysSmall (size_of (fields c.args.table.now) + 256 * joins (tree_of (fields c.args.table.now)) c.args.key.now) (fields c.set_entries.new.self)
small_new g c =
    let e = c.in_default.ensures in
    let old = fields c.args.table.now in let mid = fields c.walk_in.new.table in let new = fields c.put_number.new.table in
    let key = c.args.key.now in
    let fits : FitsSigned w32 c.args.value = search rules in
    let same : to_z w32 (of_z w32 c.args.value) ≡ c.args.value = to_z-of_z w32 c.args.value fits in
    subst (StaysSmall (size_of old + 256 * joins (tree_of old) key)) (sym c.set_entries.ensures) (number_small g.row.SLOTS old mid new key c.in_ok-end.end c.args.value c.requires.key c.in_ok-end.ensures.walked c.in_ok-end.ensures.packs
    (λ f w h at. subst (λ v. HoldsTree (size_of new) (cells_in new) (edit_at w (λ _. Some v) (λ u. u) f)) same (e.set f w h at)) e.step.growth.blocks e.single)

pub returns-then-is_new-clause-small : goal.returns-then-is_new-clause-small
returns-then-is_new-clause-small g c = small_new g c

pub returns-then-is_new-clause-puts : goal.returns-then-is_new-clause-puts
returns-then-is_new-clause-puts g c =
    done_put g.row.SLOTS (fields c.args.table.now) (fields c.set_entries.new.self) c.args.key.now c.args.value c.number_of-held.result
    (number_before g.row.SLOTS (fields c.args.table.now) (fields c.walk_in.new.table) c.args.key.now c.in_ok-end.end c.requires.well_formed c.requires.key c.in_ok-end.ensures.walked c.number_of-held.result
    (λ f w h at. c.number_of-held.ensures _ (at_node _ _ f w c.in_ok-end.end h at)))
    (small_new g c) (put_new g c)

-- the number is put over another
put_over : (g : _) (c : goal.Else-is_new g) → IsPut g.row.SLOTS (fields c.args.table.now) (fields c.put_number.new.table) c.args.key.now c.args.value
put_over g c =
    let e = c.in_default.ensures in
    let old = fields c.args.table.now in let mid = fields c.walk_in.new.table in let new = fields c.put_number.new.table in
    let k = c.in_ok-end.ensures.walked in
    let well = c.requires.well_formed in let key = c.args.key.now in
    let fits : FitsSigned w32 c.args.value = search rules in
    let same : to_z w32 (of_z w32 c.args.value) ≡ c.args.value = to_z-of_z w32 c.args.value fits in
    let had : c.number_of-held.result ≡ number_at (tree_of old) key = number_before g.row.SLOTS old mid key c.in_ok-end.end well c.requires.key k c.number_of-held.result
    (λ f w h at. c.number_of-held.ensures _ (at_node _ _ f w c.in_ok-end.end h at)) in
    is_put g.row.SLOTS old mid key c.in_ok-end.end well c.requires.key k new c.args.value c.put_number.new.table.entries c.requires.value
    (record { table = e.sound; set = λ f w h at. subst (λ v. HoldsTree (size_of new) (cells_in new) (edit_at w (λ _. Some v) (λ u. u) f)) same (e.set f w h at); blocks = e.step.growth.blocks; owned = λ own. (e.owned own).1; own = λ v own. (e.own v own).1; leaf = λ is. elim (e.leaf is) [ inl none ↦ inl none.1 | inr full ↦ inr full ]; root_check = e.step.growth.root_check; settings = e.step.growth.settings })
    (no_more _ _ _ (sym (ap is_some had) ∙ c.is_none-is_new.ensures) c.if-is_new.false)

small_over : (g : _) (c : goal.Else-is_new g) → StaysSmall (size_of (fields c.args.table.now) + 256 * joins (tree_of (fields c.args.table.now)) c.args.key.now) (fields c.put_number.new.table)
small_over g c =
    let e = c.in_default.ensures in
    let old = fields c.args.table.now in let mid = fields c.walk_in.new.table in let new = fields c.put_number.new.table in
    let key = c.args.key.now in
    let fits : FitsSigned w32 c.args.value = search rules in
    let same : to_z w32 (of_z w32 c.args.value) ≡ c.args.value = to_z-of_z w32 c.args.value fits in
    (number_small g.row.SLOTS old mid new key c.in_ok-end.end c.args.value c.requires.key c.in_ok-end.ensures.walked c.in_ok-end.ensures.packs
    (λ f w h at. subst (λ v. HoldsTree (size_of new) (cells_in new) (edit_at w (λ _. Some v) (λ u. u) f)) same (e.set f w h at)) e.step.growth.blocks e.single)

pub returns-else-is_new-clause-small : goal.returns-else-is_new-clause-small
returns-else-is_new-clause-small g c = small_over g c

pub returns-else-is_new-clause-puts : goal.returns-else-is_new-clause-puts
returns-else-is_new-clause-puts g c =
    done_put g.row.SLOTS (fields c.args.table.now) (fields c.put_number.new.table) c.args.key.now c.args.value c.number_of-held.result
    (number_before g.row.SLOTS (fields c.args.table.now) (fields c.walk_in.new.table) c.args.key.now c.in_ok-end.end c.requires.well_formed c.requires.key c.in_ok-end.ensures.walked c.number_of-held.result
    (λ f w h at. c.number_of-held.ensures _ (at_node _ _ f w c.in_ok-end.end h at)))
    (small_over g c) (put_over g c)

pub returns-in_err-end-clause-lacking : goal.returns-in_err-end-clause-lacking
returns-in_err-end-clause-lacking g c = λ reduced lacks.
    let made = c.in_err-end.ensures.refused.blocks in
    (made.0, made.1, on_refusal c.from_residual.result _ (made.2 reduced lacks), made.3)

pub returns-in-Err-clause-lacking : goal.returns-in-Err-clause-lacking
returns-in-Err-clause-lacking g c = λ reduced lacks.
    let made = (refused g c).blocks in
    (made.0, made.1, made.2 reduced lacks, made.3)

pub returns-then-is_new-clause-lacking : goal.returns-then-is_new-clause-lacking
returns-then-is_new-clause-lacking g c = λ reduced lacks. let made = (put_new g c).lacking reduced lacks in (made.0, made.1, tt, made.2)

pub returns-else-is_new-clause-lacking : goal.returns-else-is_new-clause-lacking
returns-else-is_new-clause-lacking g c = λ reduced lacks. let made = (put_over g c).lacking reduced lacks in (made.0, made.1, tt, made.2)

pub returns-in_err-end-clause-marks : goal.returns-in_err-end-clause-marks
returns-in_err-end-clause-marks g c = c.in_err-end.ensures.refused.marks

pub returns-in-Err-clause-marks : goal.returns-in-Err-clause-marks
returns-in-Err-clause-marks g c = (refused g c).marks

pub returns-then-is_new-clause-marks : goal.returns-then-is_new-clause-marks
returns-then-is_new-clause-marks g c =
    subst (λ T. KeepsMarks (cells_in (fields c.args.table.now)) (cells_in T)) (sym c.set_entries.ensures)
    (put_keeps g.row.SLOTS (fields c.args.table.now) (fields c.walk_in.new.table) (record (fields c.put_number.new.table) { entries = c.entries.result + 1 }) c.args.key.now c.in_ok-end.end c.requires.well_formed c.requires.key c.in_ok-end.ensures.walked refl (λ o. c.in_default.ensures.marks o) (λ r z. c.in_default.ensures.marks_own r z))

pub returns-then-is_new-clause-new_mark : goal.returns-then-is_new-clause-new_mark
returns-then-is_new-clause-new_mark g c =
    subst (λ T. NewMark (fields c.args.table.now) T c.args.key.now) (sym c.set_entries.ensures)
    (new_mark g.row.SLOTS (fields c.args.table.now) (fields c.walk_in.new.table) (record (fields c.put_number.new.table) { entries = c.entries.result + 1 }) c.args.key.now c.in_ok-end.end c.requires.well_formed c.requires.key c.in_ok-end.ensures.walked refl (λ o. c.in_default.ensures.marks o) (λ r z. c.in_default.ensures.marks_own r z))

pub returns-else-is_new-clause-marks : goal.returns-else-is_new-clause-marks
returns-else-is_new-clause-marks g c = put_keeps g.row.SLOTS (fields c.args.table.now) (fields c.walk_in.new.table) (fields c.put_number.new.table) c.args.key.now c.in_ok-end.end c.requires.well_formed c.requires.key c.in_ok-end.ensures.walked refl (λ o. c.in_default.ensures.marks o) (λ r z. c.in_default.ensures.marks_own r z)

pub returns-else-is_new-clause-new_mark : goal.returns-else-is_new-clause-new_mark
returns-else-is_new-clause-new_mark g c = new_mark g.row.SLOTS (fields c.args.table.now) (fields c.walk_in.new.table) (fields c.put_number.new.table) c.args.key.now c.in_ok-end.end c.requires.well_formed c.requires.key c.in_ok-end.ensures.walked refl (λ o. c.in_default.ensures.marks o) (λ r z. c.in_default.ensures.marks_own r z)

pub returns-in_err-end-clause-small : goal.returns-in_err-end-clause-small
returns-in_err-end-clause-small g c = on_no_refusal c.from_residual.result c.in_err-end.field-0.0 _ c.from_residual.ensures.1

pub returns-in_err-end-clause-new_mark : goal.returns-in_err-end-clause-new_mark
returns-in_err-end-clause-new_mark g c = on_no_refusal c.from_residual.result c.in_err-end.field-0.0 _ c.from_residual.ensures.1

pub set_entries-requires : goal.set_entries-requires
set_entries-requires g c = search rules

pub entries-requires : goal.entries-requires
entries-requires g c = search rules

pub walk_in-requires : goal.walk_in-requires
walk_in-requires g c = (search rules, (c.requires.well_formed, (c.requires.key, c.requires.way)))
