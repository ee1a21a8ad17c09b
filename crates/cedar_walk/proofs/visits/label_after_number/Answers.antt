use Rattle.std.proofs.Common.{◌<◌, ◌∙◌, arith, rules, subst, sym}
use lib.Bits.{xor_zero_r}
use Rattle.cedar_model.specs.Queries.{node_at}
use Rattle.cedar_model.specs.Meaning.WellFormed.{tree_of}
use Rattle.cedar_table.specs.Table.Views.{cells, fields}
use Rattle.cedar_model.specs.Table.TableFields.{size_of}
use Rattle.cedar_model.proofs.MeaningLemmas.SearchStep.{slot_in, never_nothing}
use Rattle.cedar_walk.proofs.WalkLemmas.NextNode.{node_inside, node_stands}
use Rattle.cedar_walk.proofs.WalkLemmas.NextNumber.{first_held, none_held, one_number}
use Rattle.cedar_walk.proofs.visits.label_after_number.Goals as goal

pub stored_at_node-requires : goal.stored_at_node-requires
stored_at_node-requires g c =
    let T = c.args.table.now in
    let held = c.requires.held in
    (search rules, (node_inside _ (fields T) c.requires.well_formed held.0 c.args.node held.2, never_nothing (size_of (fields T)) (cells T) c.args.node _ (node_stands _ (fields T) c.requires.well_formed held.0 c.args.node held.2)))

pub sibling-requires : goal.sibling-requires
sibling-requires g c =
    let T = c.args.table.now in
    let held = c.requires.held in
    let st = node_stands _ (fields T) c.requires.well_formed held.0 c.args.node held.2 in
    let within : c.in-AtBase.base < size_of (fields T) = subst (λ x. x < size_of (fields T)) (xor_zero_r c.in-AtBase.base) (slot_in (size_of (fields T)) (cells T) c.args.node (node_at (tree_of (fields T)) held.0) st c.in-AtBase.base 0 (sym c.stored_at_node.ensures ∙ c.in-AtBase.is) (omega arith) (omega (arith, T.shaped.blocks.some)) (omega arith)) in
    (search rules, omega (arith, within, T.shaped.blocks.active_in))

pub returns-in-AtBase : goal.returns-in-AtBase
returns-in-AtBase g c = λ w at.
    let T = c.args.table.now in
    let held = c.requires.held in
    let st = node_stands _ (fields T) c.requires.well_formed w c.args.node at in
    c.sibling.ensures
    ∙ first_held (size_of (fields T)) (cells T) c.args.node (node_at (tree_of (fields T)) w) st held.1 (one_number _ (fields T) c.requires.well_formed held.0 w c.args.node held.1 held.2 at held.3) c.in-AtBase.base (sym c.stored_at_node.ensures ∙ c.in-AtBase.is)

pub returns-in-OwnNumber : goal.returns-in-OwnNumber
returns-in-OwnNumber g c = λ w at.
    let T = c.args.table.now in
    let held = c.requires.held in
    let st = node_stands _ (fields T) c.requires.well_formed w c.args.node at in
    none_held (size_of (fields T)) (cells T) c.args.node (node_at (tree_of (fields T)) w) st held.1 (one_number _ (fields T) c.requires.well_formed held.0 w c.args.node held.1 held.2 at held.3) _ (sym c.stored_at_node.ensures ∙ c.in-OwnNumber.is)

pub returns-in-Nothing : goal.returns-in-Nothing
returns-in-Nothing g c = λ w at.
    let T = c.args.table.now in
    absurd (never_nothing _ _ c.args.node _ (node_stands _ (fields T) c.requires.well_formed w c.args.node at) (sym c.stored_at_node.ensures ∙ c.in-Nothing.is))
