use Rattle.std.proofs.Common.{◌<◌, ◌∙◌, arith, rules, ◌++◌, [], ◌∷◌}
use Rattle.cedar_table.specs.Table.Views.{fields}
use Rattle.cedar_model.specs.Table.TableFields.{size_of}
use Rattle.cedar_walk.proofs.WalkLemmas.NextNode.{next_label, node_inside}
use Rattle.cedar_walk.proofs.visits.next_sibling.Goals as goal

pub sibling-requires : goal.sibling-requires
sibling-requires g c =
    let inside : c.args.node < size_of (fields c.args.table.now) = node_inside _ (fields c.args.table.now) c.requires.well_formed (c.requires.at.0 ++ c.requires.at.1 ∷ []) c.args.node c.requires.at.2 in
    (search rules, omega (arith, inside, c.args.table.now.shaped.blocks.active_in))

pub returns : goal.returns
returns g c = λ w l at. c.sibling.ensures ∙ next_label _ (fields c.args.table.now) c.requires.well_formed w l c.args.node at
