use Rattle.std.proofs.Common.{inl, inr, rules, ◌≢◌, ◌∙◌, sym}
use Rattle.std.specs.Prelude.{pos}
use Rattle.cedar_model.specs.Meaning.Family.{below}
use Rattle.cedar_model.specs.Edit.NodeEdits.{IsNodeOf}
use Rattle.cedar_table.specs.Table.Views.{cells, fields}
use Rattle.cedar_model.specs.Table.TableFields.{size_of}
use Rattle.cedar_model.proofs.UpdateLemmas.BlocksMade.{growth_framed}
use Rattle.cedar_model.proofs.UpdateLemmas.ChildReached.{child_added}
use Rattle.cedar_model.specs.Edit.Packing.{MakesIfFull}
use Rattle.cedar_edit.proofs.LeafLemmas.{leaf_alone, single_taken}
use Rattle.cedar_edit.proofs.StepLemmas.{refused_step}
use Rattle.cedar_edit.proofs.keys.step.extend_leaf.Goals as goal

pub returns-in_err-slot-clause-step : goal.returns-in_err-slot-clause-step
returns-in_err-slot-clause-step g c =
    let step = c.in_err-slot.ensures.step in
    refused_step _ _ _ c.from_residual.result c.in_err-slot.field-0.0 c.from_residual.ensures.1 step.refused step.unchanged step.growth

pub returns-in_err-slot-clause-absent : goal.returns-in_err-slot-clause-absent
returns-in_err-slot-clause-absent g c =
    let n = c.requires.node in
    leaf_alone (size_of (fields c.args.table.now)) (cells c.args.table.now) (fields c.args.table.now).ordered n.0 c.args.node n.1 c.requires.not_root c.requires.leaf _

pub add_only-requires : goal.add_only-requires
add_only-requires g c =
    let n = c.requires.node in
    let room = c.in_ok-slot.ensures in
    let node : IsNodeOf (size_of (fields c.first_base.new.table)) (cells c.first_base.new.table) (fields c.first_base.new.table).ordered n.0 c.args.node = record {
      holds = room.tree n.0 n.1.holds;
      ascending = λ o. n.1.ascending (sym room.step.growth.settings.ordered ∙ o);
      path = n.1.path;
      at = room.placed.at n.1.path n.1.at;
    } in
    (search rules, record { sound = room.sound; node_in = room.placed.inside; not_root = c.requires.not_root; node = (n.0, node); positive = c.requires.positive; based = room.placed.based c.requires.not_root; alone = room.alone; free = room.placed.free; slot = room.slot })

pub returns-clause-stepped : goal.returns-clause-stepped
returns-clause-stepped g c =
    let n = c.requires.node in
    let room = c.in_ok-slot.ensures in
    let add = c.add_only.ensures in
    let absent : (cells c.args.table.now).check (below (cells c.args.table.now) c.args.node c.args.label) ≢ pos c.args.node =
    leaf_alone (size_of (fields c.args.table.now)) (cells c.args.table.now) (fields c.args.table.now).ordered n.0 c.args.node n.1 c.requires.not_root c.requires.leaf _ in
    child_added (fields c.args.table.now) (fields c.first_base.new.table) (fields c.add_only.new.table) c.args.node c.args.label c.args.node c.in_ok-slot.slot n.0 n.1.path n.1.holds n.1.at
    room.placed room.tree room.step.growth.settings.ordered absent add.added add.slot (add.sound.sound.shaped.blocks.some) add.tree add.leaf
    (room.tree n.0 n.1.holds).stands.0.based (λ z. z) (λ z. absurd (c.requires.not_root z))

pub returns-clause-step : goal.returns-clause-step
returns-clause-step g c = record { refused = tt; unchanged = tt; growth = growth_framed _ _ _ c.in_ok-slot.ensures.step.growth c.add_only.ensures.frame c.add_only.ensures.root_check }

pub returns-clause-absent : goal.returns-clause-absent
returns-clause-absent g c =
    let n = c.requires.node in
    leaf_alone (size_of (fields c.args.table.now)) (cells c.args.table.now) (fields c.args.table.now).ordered n.0 c.args.node n.1 c.requires.not_root c.requires.leaf _

pub returns-clause-single : goal.returns-clause-single
returns-clause-single g c =
    let room = c.in_ok-slot.ensures in
    let add = c.add_only.ensures in
    let made : MakesIfFull (fields c.args.table.now) (fields c.first_base.new.table) = elim room.made [ inl none ↦ inl none.1 | inr full ↦ inr full ] in
    single_taken (fields c.args.table.now) (fields c.first_base.new.table) (fields c.add_only.new.table) c.in_ok-slot.slot (below (cells c.first_base.new.table) c.args.node c.args.label) made add.frame room.keeps add.keeps room.slot room.placed.free add.taken
