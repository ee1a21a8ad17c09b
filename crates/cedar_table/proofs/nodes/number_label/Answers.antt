use Rattle.std.proofs.Common.{◌∙◌, ap, refl, [], ◌∷◌, ◌++◌}
use Rattle.cedar_table.specs.Table.Views.{cells}
use Rattle.cedar_model.proofs.MeaningLemmas.LabelList.{number_not_there, number_there}
use Rattle.cedar_table.proofs.nodes.number_label.Goals as goal

pub returns-then-has_number_slot : goal.returns-then-has_number_slot
returns-then-has_number_slot g c = λ h ls f.
    c.push.ensures.items ∙ ap (λ v. v ++ 0 ∷ []) c.new-labels.ensures
    ∙ number_there _ (cells c.args.table.now) c.args.node _ h ls c.requires.not_root refl (c.has_number_slot.ensures.0 c.if-has_number_slot.true) f

pub returns : goal.returns
returns g c = λ h ls f.
    c.new-labels.ensures ∙ number_not_there _ (cells c.args.table.now) c.args.node _ h ls refl (λ o. let yes = c.has_number_slot.ensures.1 o in cc) f
