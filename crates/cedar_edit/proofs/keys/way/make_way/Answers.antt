use Rattle.std.proofs.Common.{◌≡◌, arith, inl, refl, subst, take}
use Rattle.cedar_model.specs.Edit.NodeEdits.{IsAt}
use Rattle.cedar_model.specs.Meaning.Marks.{MovesOut}
use Rattle.cedar_model.specs.Edit.Steps.{root_of}
use Rattle.cedar_table.specs.Table.Views.{cells, fields}
use Rattle.cedar_model.specs.Meaning.WellFormed.{tree_of}
use Rattle.cedar_model.proofs.UpdateLemmas.BlocksMade.{made_none}
use Rattle.cedar_model.proofs.UpdateLemmas.NumberInTheWay.{default_way, has_way, lacks_node, moves_out, not_held, not_one}
use Rattle.cedar_model.proofs.UpdateLemmas.StepAnswers.{on_refusal}
use Rattle.cedar_model.proofs.TreeLemmas.{key_is_path}
use Rattle.cedar_edit.proofs.keys.way.make_way.Goals as goal

pub returns-then-not-keeps_numbers-clause-way : goal.returns-then-not-keeps_numbers-clause-way
returns-then-not-keeps_numbers-clause-way g c = default_way (fields c.args.table.now) (λ reduced. let yes = c.keeps_numbers.ensures.1 reduced in let no = c.if-not-keeps_numbers.true in cc) 0 c.args.key.now

pub returns-then-not-keeps_numbers-clause-blocks : goal.returns-then-not-keeps_numbers-clause-blocks
returns-then-not-keeps_numbers-clause-blocks g c = (0, omega arith, tt, made_none _ _ (record { slots = refl; active = refl; len = refl; max_trial = refl }))

pub returns-in_default-clause-blocks : goal.returns-in_default-clause-blocks
returns-in_default-clause-blocks g c = (0, omega arith, tt, made_none _ _ (record { slots = refl; active = refl; len = refl; max_trial = refl }))

pub returns-in_err-move_out-clause-over : goal.returns-in_err-move_out-clause-over
returns-in_err-move_out-clause-over g c = λ held. absurd (not_held g.row.SLOTS (fields c.args.table.now) c.requires.well_formed c.args.key.now c.in-Some.length c.in-Some.ensures.0 c.in-Some.ensures.1 held)

pub returns-in_err-move_out-clause-one_byte : goal.returns-in_err-move_out-clause-one_byte
returns-in_err-move_out-clause-one_byte g c = λ one. absurd (not_one g.row.SLOTS (fields c.args.table.now) c.requires.well_formed c.args.key.now c.in-Some.length c.in-Some.ensures.0 c.in-Some.ensures.1 one)

pub returns-clause-way : goal.returns-clause-way
returns-clause-way g c =
    let own = c.in-Some.ensures.1 in
    let m = c.move_out.ensures in
    let at : IsAt (cells c.move_out.new.table) (take c.in-Some.length c.args.key.now) own.0 = m.at (take c.in-Some.length c.args.key.now) own.0 own.1 in
    has_way g.row.SLOTS (fields c.args.table.now) c.requires.well_formed c.args.key.now c.in-Some.length c.in-Some.ensures.0 own (fields c.move_out.new.table) m.well_formed m.tree at (c.in_ok-move_out.ensures.moved own.0 at) (key_is_path c.args.key.now c.requires.key)

pub returns-clause-moved : goal.returns-clause-moved
returns-clause-moved g c = λ n is.
    let own = c.in-Some.ensures.1 in
    let m = c.move_out.ensures in
    let at : IsAt (cells c.move_out.new.table) (take c.in-Some.length c.args.key.now) own.0 = m.at (take c.in-Some.length c.args.key.now) own.0 own.1 in
    let same : c.in-Some.length ≡ n = cc in
    let less = c.in-Some.ensures.0 in (
      omega (arith, less, same),
      c.keeps_numbers.ensures.0 c.if-not-keeps_numbers.false,
      lacks_node g.row.SLOTS (fields c.args.table.now) c.requires.well_formed c.args.key.now c.in-Some.length c.in-Some.ensures.0 own (fields c.move_out.new.table) m.well_formed m.tree at (c.in_ok-move_out.ensures.moved own.0 at) (key_is_path c.args.key.now c.requires.key),
    )

pub returns-clause-over : goal.returns-clause-over
returns-clause-over g c = λ held. absurd (not_held g.row.SLOTS (fields c.args.table.now) c.requires.well_formed c.args.key.now c.in-Some.length c.in-Some.ensures.0 c.in-Some.ensures.1 held)

pub returns-clause-one_byte : goal.returns-clause-one_byte
returns-clause-one_byte g c = λ one. absurd (not_one g.row.SLOTS (fields c.args.table.now) c.requires.well_formed c.args.key.now c.in-Some.length c.in-Some.ensures.0 c.in-Some.ensures.1 one)

pub returns-in_err-move_out-clause-stays : goal.returns-in_err-move_out-clause-stays
returns-in_err-move_out-clause-stays g c = on_refusal c.from_residual.result _ c.in_err-move_out.ensures.stays

pub returns-clause-moves : goal.returns-clause-moves
returns-clause-moves g c = λ n is.
    let own = c.in-Some.ensures.1 in
    let m = c.move_out.ensures in
    let at : IsAt (cells c.move_out.new.table) (take c.in-Some.length c.args.key.now) own.0 = m.at (take c.in-Some.length c.args.key.now) own.0 own.1 in
    let same : c.in-Some.length ≡ n = cc in
    let out = moves_out g.row.SLOTS (fields c.args.table.now) c.requires.well_formed c.args.key.now c.in-Some.length c.in-Some.ensures.0 own (fields c.move_out.new.table) m.well_formed m.tree at (c.in_ok-move_out.ensures.moved own.0 at) (key_is_path c.args.key.now c.requires.key) (c.in_ok-move_out.ensures.others own.0 own.1) in
    subst (λ k. MovesOut (cells c.args.table.now) (cells c.move_out.new.table) (root_of (tree_of (fields c.args.table.now)).children) (take k c.args.key.now)) same out

pub returns-then-not-keeps_numbers-clause-made : goal.returns-then-not-keeps_numbers-clause-made
returns-then-not-keeps_numbers-clause-made g c = inl (made_none _ _ (record { slots = refl; active = refl; len = refl; max_trial = refl }))

pub returns-in_default-clause-made : goal.returns-in_default-clause-made
returns-in_default-clause-made g c = inl (made_none _ _ (record { slots = refl; active = refl; len = refl; max_trial = refl }))
