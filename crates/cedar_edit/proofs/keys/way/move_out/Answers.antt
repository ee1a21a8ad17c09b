use Rattle.std.proofs.Common.{◌≡◌, ◌∙◌, ap, arith, FitsSigned, inl, None, of_z, refl, rules, Some, subst, sym, to_z, w32}
use Rattle.std.specs.Prelude.{pos}
use Rattle.std.proofs.lemmas.Int.{to_z-of_z}
use Rattle.cedar_model.specs.declared.layout.Stored.TheVariants.{OwnNumber}
use Rattle.cedar_model.specs.Meaning.Family.{below}
use Rattle.cedar_model.specs.Meaning.Marks.{KeepsOtherMarks}
use Rattle.cedar_table.specs.Table.Views.{cells, fields}
use Rattle.cedar_slots.specs.Views.{places_of}
use Rattle.cedar_model.proofs.UpdateLemmas.BlocksMade.{made_none}
use Rattle.cedar_model.proofs.UpdateLemmas.Erasure.{key_node}
use Rattle.cedar_model.proofs.UpdateLemmas.StepAnswers.{on_refusal}
use Rattle.cedar_model.proofs.UpdateLemmas.Ending.{tree_kept}
use Rattle.cedar_model.proofs.UpdateLemmas.FreeWay.{at_same, own_held, own_no_root, slots_marks}
use Rattle.cedar_edit.proofs.keys.way.move_out.Goals as goal

pub returns-in_default-clause-moved : goal.returns-in_default-clause-moved
returns-in_default-clause-moved g c =
    let T = fields c.args.table.now in
    let held = own_held g.row.SLOTS T c.args.key.now c.requires.own.0 c.requires.own.2 c.requires.well_formed c.requires.own.1 c.requires.own.3 in
    let none : None ≡ Some c.requires.own.2 = sym c.in_default.ensures.0 ∙ held in
    absurd (cc)

pub returns-in_default-clause-blocks : goal.returns-in_default-clause-blocks
returns-in_default-clause-blocks g c = (0, omega arith, tt, made_none _ _ (record { slots = refl; active = refl; len = refl; max_trial = refl }))

pub move_number-requires : goal.move_number-requires
move_number-requires g c =
    let T = fields c.args.table.now in
    let w = c.requires.well_formed in
    let fits : FitsSigned w32 c.in-OwnNumber.value = search rules in
    let same : to_z w32 (of_z w32 c.in-OwnNumber.value) ≡ c.in-OwnNumber.value = to_z-of_z w32 c.in-OwnNumber.value fits in
    let own : (cells c.args.table.now).stored c.in-Some.node ≡ OwnNumber c.in-OwnNumber.value = sym c.stored_at.ensures ∙ c.in-OwnNumber.is in
    (search rules, record { sound = w.table; node_in = c.in-Some.ensures.0; not_root = own_no_root g.row.SLOTS T c.in-Some.node c.in-OwnNumber.value w own; node = (_, key_node g.row.SLOTS T w c.args.key.now c.in-Some.node c.in-Some.ensures.2); own = own ∙ ap OwnNumber (sym same) })

pub returns-in_err-move_number-clause-well_formed : goal.returns-in_err-move_number-clause-well_formed
returns-in_err-move_number-clause-well_formed g c =
    let m = c.move_number.ensures in
    let w = c.requires.well_formed in
    (tree_kept g.row.SLOTS (fields c.args.table.now) (fields c.move_number.new.table) w m.sound m.step.growth.root_check (m.tree _ w.stands) m.step.growth.settings).0

pub returns-in_err-move_number-clause-tree : goal.returns-in_err-move_number-clause-tree
returns-in_err-move_number-clause-tree g c =
    let m = c.move_number.ensures in
    let w = c.requires.well_formed in
    (tree_kept g.row.SLOTS (fields c.args.table.now) (fields c.move_number.new.table) w m.sound m.step.growth.root_check (m.tree _ w.stands) m.step.growth.settings).1

pub returns-in_ok-move_number-clause-well_formed : goal.returns-in_ok-move_number-clause-well_formed
returns-in_ok-move_number-clause-well_formed g c =
    let m = c.move_number.ensures in
    let w = c.requires.well_formed in
    (tree_kept g.row.SLOTS (fields c.args.table.now) (fields c.move_number.new.table) w m.sound m.step.growth.root_check (m.tree _ w.stands) m.step.growth.settings).0

pub returns-in_ok-move_number-clause-tree : goal.returns-in_ok-move_number-clause-tree
returns-in_ok-move_number-clause-tree g c =
    let m = c.move_number.ensures in
    let w = c.requires.well_formed in
    (tree_kept g.row.SLOTS (fields c.args.table.now) (fields c.move_number.new.table) w m.sound m.step.growth.root_check (m.tree _ w.stands) m.step.growth.settings).1

pub returns-in_ok-move_number-clause-moved : goal.returns-in_ok-move_number-clause-moved
returns-in_ok-move_number-clause-moved g c = λ s on.
    let T' = cells c.move_number.new.table in
    let same = at_same T' c.args.key.now c.in-Some.node s (c.move_number.ensures.at c.args.key.now c.in-Some.node c.in-Some.ensures.2) on in
    subst (λ x. T'.check (below T' x 0) ≡ pos x) same c.in_ok-move_number.ensures.moved

pub returns-in_err-move_number-clause-stays : goal.returns-in_err-move_number-clause-stays
returns-in_err-move_number-clause-stays g c = on_refusal c.from_residual.result _ (slots_marks g.L.Layout.kind (places_of c.args.table.now.places) (places_of c.move_number.new.table.places) c.in_err-move_number.ensures.step.unchanged)

pub returns-in_ok-move_number-clause-others : goal.returns-in_ok-move_number-clause-others
returns-in_ok-move_number-clause-others g c = λ s on.
    let same = at_same (cells c.args.table.now) c.args.key.now c.in-Some.node s c.in-Some.ensures.2 on in
    subst (KeepsOtherMarks (cells c.args.table.now) (cells c.move_number.new.table)) same c.in_ok-move_number.ensures.others

pub returns-in_default-clause-made : goal.returns-in_default-clause-made
returns-in_default-clause-made g c = inl (made_none _ _ (record { slots = refl; active = refl; len = refl; max_trial = refl }))
