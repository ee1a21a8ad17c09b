use Rattle.std.proofs.Common.{rules}
use Rattle.cedar_table.specs.Table.Views.{cells, fields}
use Rattle.cedar_model.specs.Table.TableFields.{size_of}
use Rattle.cedar_walk.proofs.WalkLemmas.NextNode.{node_inside, node_stands}
use Rattle.cedar_model.proofs.MeaningLemmas.SearchStep.{never_nothing}
use Rattle.cedar_walk.proofs.visits.child_under.Goals as goal

pub slot_below-requires : goal.slot_below-requires
slot_below-requires g c =
    let T = fields c.args.table.now in
    let a = c.requires.at in (
      search rules,
      (node_inside _ T c.requires.well_formed a.0 c.args.node a.1, never_nothing (size_of T) (cells c.args.table.now) c.args.node _ (node_stands _ T c.requires.well_formed a.0 c.args.node a.1)),
    )
