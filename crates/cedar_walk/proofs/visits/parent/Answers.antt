use Rattle.std.proofs.Common.{◌∙◌, rules, sym, subst, ◌++◌, [], ◌∷◌}
use Rattle.cedar_model.specs.Edit.NodeEdits.{IsAt}
use Rattle.cedar_table.specs.Table.Views.{cells, fields}
use Rattle.cedar_model.proofs.MeaningLemmas.ExclusiveOr.{pos_injective}
use Rattle.cedar_walk.proofs.WalkLemmas.NextNode.{last_of, node_inside}
use Rattle.cedar_walk.proofs.visits.parent.Goals as goal

pub owner-requires : goal.owner-requires
owner-requires g c =
    let last = last_of (cells c.args.table.now) c.requires.at.0 c.requires.at.1 c.args.node c.requires.at.2 in
    (search rules, (node_inside _ (fields c.args.table.now) c.requires.well_formed (c.requires.at.0 ++ c.requires.at.1 ∷ []) c.args.node c.requires.at.2, (last.above, last.check)))

pub returns-clause-above : goal.returns-clause-above
returns-clause-above g c = λ w l at.
    let last = last_of (cells c.args.table.now) w l c.args.node at in
    subst (IsAt (cells c.args.table.now) w) (pos_injective _ _ (sym last.check ∙ c.owner.ensures)) last.at
