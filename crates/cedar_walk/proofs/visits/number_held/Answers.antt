use Rattle.std.proofs.Common.{◌<◌, ap, sym, ◌∙◌, arith, rules, Some, w32, FitsSigned, subst}
use lib.Bits.{xor_zero_r}
use Rattle.std.proofs.lemmas.Int.{to_z-of_z}
use Rattle.cedar_table.specs.Table.Views.{cells, fields}
use Rattle.cedar_model.specs.Table.TableFields.{size_of}
use Rattle.cedar_model.proofs.MeaningLemmas.SearchStep.{slot_in, number_found, number_own, never_nothing}
use Rattle.cedar_walk.proofs.WalkLemmas.NextNumber.{owner_held}
use Rattle.cedar_walk.proofs.visits.number_held.Goals as goal

pub stored_at_node-requires : goal.stored_at_node-requires
stored_at_node-requires g c =
    let T = c.args.table.now in
    (search rules, (c.requires.node_in, never_nothing (size_of (fields T)) (cells T) c.args.node c.requires.held.0 c.requires.held.2))

pub returns-in-OwnNumber : goal.returns-in-OwnNumber
returns-in-OwnNumber g c = λ t k.
    let T = c.args.table.now in
    let fits : FitsSigned w32 c.in-OwnNumber.value = search rules in
    number_own (size_of (fields T)) (cells T) c.args.node t k c.in-OwnNumber.value (sym c.stored_at_node.ensures ∙ c.in-OwnNumber.is) ∙ ap Some (sym (to_z-of_z w32 c.in-OwnNumber.value fits))

pub base-requires : goal.base-requires
base-requires g c =
    let T = c.args.table.now in
    let within : c.in-AtBase.base < size_of (fields T) = subst (λ x. x < size_of (fields T)) (xor_zero_r c.in-AtBase.base) (slot_in (size_of (fields T)) (cells T) c.args.node c.requires.held.0 c.requires.held.2 c.in-AtBase.base 0 (sym c.stored_at_node.ensures ∙ c.in-AtBase.is) (omega arith) (omega (arith, T.shaped.blocks.some)) (omega arith)) in
    (search rules, omega (arith, within, T.shaped.blocks.active_in))

pub returns-in-AtBase : goal.returns-in-AtBase
returns-in-AtBase g c = λ t k.
    let T = c.args.table.now in
    let fits : FitsSigned w32 c.base.result = search rules in
    let is = sym c.stored_at_node.ensures ∙ c.in-AtBase.is in
    let held = owner_held (size_of (fields T)) (cells T) c.args.node c.requires.held.0 c.requires.held.2 c.requires.held.1 c.requires.held.3 c.in-AtBase.base is in
    number_found (size_of (fields T)) (cells T) c.args.node t k c.in-AtBase.base is held ∙ ap Some (sym (to_z-of_z w32 c.base.result fits ∙ c.base.ensures))

pub returns-in-Nothing : goal.returns-in-Nothing
returns-in-Nothing g c = λ t k. absurd (never_nothing _ _ c.args.node t k (sym c.stored_at_node.ensures ∙ c.in-Nothing.is))
