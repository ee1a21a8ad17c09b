use Rattle.std.proofs.Common.{◌<◌, ◌∙◌, ap, arith, rules, subst, sym, ℕ, List, []}
use Rattle.cedar_model.specs.Edit.NodeEdits.{follow_on}
use Rattle.cedar_model.specs.Meaning.Family.{below}
use Rattle.cedar_table.specs.Table.Views.{cells, fields}
use Rattle.cedar_model.specs.Table.TableFields.{size_of}
use Rattle.cedar_model.proofs.UpdateLemmas.BlocksMade.{made_larger}
use Rattle.cedar_model.proofs.RelocationLemmas.Conflict.{conflict, reserves_kept, reserves_moved, reserves_own, slot_inside, slot_owned}
use Rattle.cedar_edit.proofs.StepLemmas.{refused_step}
use Rattle.cedar_edit.proofs.relocation.resolve.resolve.Goals as goal

pub owner-owner-requires : goal.owner-owner-requires
owner-owner-requires g c =
    let F = fields c.args.table.now in
    let T = cells c.args.table.now in
    let n = c.requires.node in
    let v : List ℕ = follow_on n.1.path [] in
    let small : c.args.label < 256 = omega (arith, c.ranges.label) in
    let inside : below T c.args.node c.args.label < size_of F = slot_inside F n.0 c.args.node c.args.label v n.1.holds n.1.at.0 n.1.at.1 c.requires.not_root c.requires.based small in
    let owned = slot_owned F n.0 c.args.node c.args.label v n.1.holds n.1.at.0 n.1.at.1 c.requires.not_root c.requires.based small c.requires.taken in
    (search rules, (subst (λ s. s < size_of F) (sym c.child_slot-slot.ensures) inside, (owned.0, ap T.check c.child_slot-slot.ensures ∙ owned.1)))

pub is_longer-requires : goal.is_longer-requires
is_longer-requires g c =
    let n = c.requires.node in
    let k = conflict (fields c.args.table.now) n.0 c.args.node c.args.label (follow_on n.1.path []) n.1.holds n.1.at.0 n.1.at.1 c.requires.not_root c.requires.based (omega (arith, c.ranges.label)) c.child_slot-slot.result c.owner-owner.result c.child_slot-slot.ensures c.owner-owner.ensures in
    (search rules, record { one_in = k.owner_in; other_in = c.requires.node_in; one_not_root = k.owner_not_root; other_not_root = c.requires.not_root; one_node = k.owner; other_node = k.node })

pub move_with-requires : goal.move_with-requires
move_with-requires g c =
    let n = c.requires.node in
    (search rules, (record { sound = c.requires.sound; node_in = c.requires.node_in; not_root = c.requires.not_root; based = c.requires.based; on_path = (follow_on n.1.path [], n.1.at.0, n.1.at.1); holds = (n.0, n.1.holds) }, c.requires.absent))

pub is_owned_by-moves-requires : goal.is_owned_by-moves-requires
is_owned_by-moves-requires g c =
    let n = c.requires.node in
    let k = conflict (fields c.args.table.now) n.0 c.args.node c.args.label (follow_on n.1.path []) n.1.holds n.1.at.0 n.1.at.1 c.requires.not_root c.requires.based (omega (arith, c.ranges.label)) c.child_slot-slot.result c.owner-owner.result c.child_slot-slot.ensures c.owner-owner.ensures in
    (search rules, (c.requires.node_in, k.owner_in))

pub base_of-old_base-requires : goal.base_of-old_base-requires
base_of-old_base-requires g c =
    let n = c.requires.node in
    let k = conflict (fields c.args.table.now) n.0 c.args.node c.args.label (follow_on n.1.path []) n.1.holds n.1.at.0 n.1.at.1 c.requires.not_root c.requires.based (omega (arith, c.ranges.label)) c.child_slot-slot.result c.owner-owner.result c.child_slot-slot.ensures c.owner-owner.ensures in
    (search rules, k.owner_in)

pub move_away-requires : goal.move_away-requires
move_away-requires g c =
    let n = c.requires.node in
    let k = conflict (fields c.args.table.now) n.0 c.args.node c.args.label (follow_on n.1.path []) n.1.holds n.1.at.0 n.1.at.1 c.requires.not_root c.requires.based (omega (arith, c.ranges.label)) c.child_slot-slot.result c.owner-owner.result c.child_slot-slot.ensures c.owner-owner.ensures in
    (search rules, (record { sound = c.requires.sound; node_in = k.owner_in; not_root = k.owner_not_root; based = k.owner_based; on_path = k.owner_path; holds = (n.0, n.1.holds) }, c.owner-owner.ensures))

pub returns-in_err-move_with-clause-step : goal.returns-in_err-move_with-clause-step
returns-in_err-move_with-clause-step g c =
    let step = c.in_err-move_with.ensures.step in
    refused_step _ _ _ c.from_residual.result c.in_err-move_with.field-0.0 c.from_residual.ensures.1 step.refused step.unchanged step.growth

pub returns-then-is_longer-clause-reserved : goal.returns-then-is_longer-clause-reserved
returns-then-is_longer-clause-reserved g c =
    let F = fields c.args.table.now in
    let F' = fields c.move_with.new.table in
    let n = c.requires.node in
    let blocks = c.move_with.ensures.step.growth.blocks in
    let m = c.in_ok-move_with.ensures.moved in
    reserves_own F F' n.0 c.args.node c.args.label (follow_on n.1.path []) (made_larger blocks.0 F F' blocks.2) c.requires.node_in n.1.holds n.1.at.0 n.1.at.1 c.requires.not_root c.requires.based (omega (arith, c.ranges.label)) m.0 m.1 m.2 m.3 m.4 m.5

pub returns-in_err-new_base-clause-step : goal.returns-in_err-new_base-clause-step
returns-in_err-new_base-clause-step g c =
    let step = c.in_err-new_base.ensures.step in
    refused_step _ _ _ c.from_residual-in_err-new_base.result c.in_err-new_base.field-0.0 c.from_residual-in_err-new_base.ensures.1 step.refused step.unchanged step.growth

pub returns-then-moves-clause-reserved : goal.returns-then-moves-clause-reserved
returns-then-moves-clause-reserved g c =
    let F = fields c.args.table.now in
    let F' = fields c.move_away.new.table in
    let n = c.requires.node in
    let blocks = c.move_away.ensures.step.growth.blocks in
    let m = c.in_ok-new_base.ensures.moved in
    reserves_moved F F' n.0 c.args.node c.args.label (follow_on n.1.path []) (made_larger blocks.0 F F' blocks.2) c.requires.node_in n.1.holds n.1.at.0 n.1.at.1 c.requires.not_root c.requires.based (omega (arith, c.ranges.label)) c.owner-owner.result c.in_ok-new_base.new_base c.base_of-old_base.result c.child_slot-slot.result m.0 m.0 c.child_slot-slot.ensures c.owner-owner.ensures c.requires.absent c.base_of-old_base.ensures (c.is_owned_by-moves.ensures.0 c.if-moves.true) m.1

pub returns-clause-reserved : goal.returns-clause-reserved
returns-clause-reserved g c =
    let F = fields c.args.table.now in
    let F' = fields c.move_away.new.table in
    let n = c.requires.node in
    let blocks = c.move_away.ensures.step.growth.blocks in
    let m = c.in_ok-new_base.ensures.moved in
    reserves_kept F F' n.0 c.args.node c.args.label (follow_on n.1.path []) (made_larger blocks.0 F F' blocks.2) c.requires.node_in n.1.holds n.1.at.0 n.1.at.1 c.requires.not_root c.requires.based (omega (arith, c.ranges.label)) c.owner-owner.result c.in_ok-new_base.new_base c.child_slot-slot.result m.0 m.0 c.child_slot-slot.ensures c.owner-owner.ensures c.requires.absent (λ mine. let yes_mine = c.is_owned_by-moves.ensures.1 mine in cc) m.1
