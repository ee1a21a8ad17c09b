use Rattle.std.proofs.Common.{◌≡◌, ◌∙◌, rules, subst, sym}
use Rattle.std.specs.Prelude.{is_some, true}
use Rattle.cedar_model.specs.Tree.{number_at}
use Rattle.cedar_model.specs.Meaning.Marks.{KeepsOtherMarks}
use Rattle.cedar_table.specs.Table.Views.{cells, fields}
use Rattle.cedar_model.specs.Meaning.WellFormed.{tree_of}
use Rattle.cedar_model.proofs.UpdateLemmas.Erasure.{key_node, key_told, unheld_not, unheld_same}
use Rattle.cedar_model.proofs.UpdateLemmas.MarkedTree.{marks_cut}
use Rattle.cedar_model.proofs.UpdateLemmas.FreeWay.{at_same}
use Rattle.cedar_edit.proofs.keys.erase.erase.Goals as goal

pub returns-in_default-clause-tree : goal.returns-in_default-clause-tree
returns-in_default-clause-tree g c = unheld_same g.row.SLOTS (fields c.args.table.now) c.args.key.now c.requires.well_formed c.in_default.ensures.0

pub has_number-requires : goal.has_number-requires
has_number-requires g c =
    let T = fields c.args.table.now in
    let w = c.requires.well_formed in
    (search rules, (w.table, (c.in-Some.ensures.0, (_, key_node g.row.SLOTS T w c.args.key.now c.in-Some.node c.in-Some.ensures.2))))

pub returns-then-not-has_number-clause-tree : goal.returns-then-not-has_number-clause-tree
returns-then-not-has_number-clause-tree g c =
    unheld_same g.row.SLOTS (fields c.args.table.now) c.args.key.now c.requires.well_formed (unheld_not _ (sym (key_told g.row.SLOTS (fields c.args.table.now) c.requires.well_formed c.args.key.now c.in-Some.node c.in-Some.ensures.2 c.has_number.result c.has_number.ensures) ∙ c.if-not-has_number.true))

pub returns-then-not-has_number-clause-held : goal.returns-then-not-has_number-clause-held
returns-then-not-has_number-clause-held g c = sym c.if-not-has_number.true ∙ key_told g.row.SLOTS (fields c.args.table.now) c.requires.well_formed c.args.key.now c.in-Some.node c.in-Some.ensures.2 c.has_number.result c.has_number.ensures

pub erase_at-requires : goal.erase_at-requires
erase_at-requires g c =
    let held : is_some (number_at (tree_of (fields c.args.table.now)) c.args.key.now) ≡ true = sym (key_told g.row.SLOTS (fields c.args.table.now) c.requires.well_formed c.args.key.now c.in-Some.node c.in-Some.ensures.2 c.has_number.result c.has_number.ensures) ∙ c.if-not-has_number.false in
    (search rules, (c.requires.well_formed, (c.in-Some.ensures.0, (c.args.key.now, c.in-Some.ensures.2, held))))

pub returns-clause-held : goal.returns-clause-held
returns-clause-held g c = sym (sym (key_told g.row.SLOTS (fields c.args.table.now) c.requires.well_formed c.args.key.now c.in-Some.node c.in-Some.ensures.2 c.has_number.result c.has_number.ensures) ∙ c.if-not-has_number.false)

pub returns-clause-tree : goal.returns-clause-tree
returns-clause-tree g c = c.erase_at.ensures.tree c.args.key.now c.in-Some.ensures.2

pub returns-clause-marks : goal.returns-clause-marks
returns-clause-marks g c = λ s on.
    let same = at_same (cells c.args.table.now) c.args.key.now c.in-Some.node s c.in-Some.ensures.2 on in
    subst (λ a. KeepsOtherMarks (cells c.args.table.now) (cells c.erase_at.new.table) a) same c.erase_at.ensures.marks

pub returns-in_default-clause-marks_cut : goal.returns-in_default-clause-marks_cut
returns-in_default-clause-marks_cut g c =
    let T = fields c.args.table.now in
    marks_cut g.row.SLOTS T T c.args.key.now c.requires.well_formed c.requires.well_formed (returns-in_default-clause-tree g c) (λ w m _ k. k)

pub returns-then-not-has_number-clause-marks_cut : goal.returns-then-not-has_number-clause-marks_cut
returns-then-not-has_number-clause-marks_cut g c =
    let T = fields c.args.table.now in
    marks_cut g.row.SLOTS T T c.args.key.now c.requires.well_formed c.requires.well_formed (returns-then-not-has_number-clause-tree g c) (λ w m _ k. k)

pub returns-clause-marks_cut : goal.returns-clause-marks_cut
returns-clause-marks_cut g c = c.erase_at.ensures.marks_cut c.args.key.now c.in-Some.ensures.2
