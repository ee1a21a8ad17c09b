use Rattle.std.proofs.Common.{rules, ◌∙◌, sym}
use Rattle.cedar_model.specs.Edit.NodeEdits.{IsNodeOf}
use Rattle.cedar_model.specs.Meaning.Family.{below}
use Rattle.cedar_model.specs.Relocation.Reserved.{cells_without}
use Rattle.cedar_table.specs.Table.Views.{cells, fields}
use Rattle.cedar_model.specs.Table.TableFields.{size_of}
use Rattle.cedar_model.proofs.UpdateLemmas.ChildReached.{child_added_over}
use Rattle.cedar_model.proofs.UpdateLemmas.BlocksMade.{growth_framed}
use Rattle.cedar_edit.proofs.StepLemmas.{refused_step}
use Rattle.cedar_edit.proofs.keys.step.add_over.Goals as goal

pub returns-in_err-node-clause-step : goal.returns-in_err-node-clause-step
returns-in_err-node-clause-step g c =
    let step = c.in_err-node.ensures.step in
    refused_step _ _ _ c.from_residual.result c.in_err-node.field-0.0 c.from_residual.ensures.1 step.refused step.unchanged step.growth

pub add_reserved-requires : goal.add_reserved-requires
add_reserved-requires g c =
    let n = c.requires.wants.node in
    let k = c.in_ok-node.ensures.reserved in
    let R = cells c.resolve.new.table in
    let node : IsNodeOf (size_of (fields c.resolve.new.table)) (cells_without R (below R c.in_ok-node.node c.args.label)) (fields c.resolve.new.table).ordered n.0 c.in_ok-node.node = record {
      holds = k.tree n.0 n.1.holds;
      ascending = λ o. n.1.ascending (sym c.in_ok-node.ensures.step.growth.settings.ordered ∙ o);
      path = n.1.path;
      at = k.at n.1.path n.1.at;
    } in
    (search rules, record { sound = c.in_ok-node.ensures.sound; node_in = k.inside; not_root = k.not_root; node = (n.0, node); positive = c.requires.positive; based = k.based; reserved = k.reserved })

pub returns-clause-stepped : goal.returns-clause-stepped
returns-clause-stepped g c =
    let add = c.add_reserved.ensures in
    child_added_over (fields c.args.table.now) (fields c.resolve.new.table) (fields c.add_reserved.new.table) c.args.node c.args.label c.in_ok-node.node c.add_reserved.result c.requires.wants.node.0 c.requires.wants.node.1.path c.requires.wants.node.1.holds c.requires.wants.node.1.at
    c.in_ok-node.ensures.reserved c.in_ok-node.ensures.step.growth.settings.ordered c.requires.wants.absent add.added add.slot (add.sound.sound.shaped.blocks.some) add.tree add.leaf c.requires.wants.not_root

pub returns-clause-step : goal.returns-clause-step
returns-clause-step g c = record { refused = tt; unchanged = tt; growth = growth_framed _ _ _ c.in_ok-node.ensures.step.growth c.add_reserved.ensures.frame c.add_reserved.ensures.root_check }
