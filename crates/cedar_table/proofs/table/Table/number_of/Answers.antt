use Rattle.std.proofs.Common.{◌<◌, ap, sym, ◌∙◌, arith, rules, Some, w32, FitsSigned, subst}
use lib.Bits.{xor_zero_r}
use Rattle.std.proofs.lemmas.Int.{to_z-of_z}
use Rattle.cedar_table.specs.Table.Views.{cells, fields}
use Rattle.cedar_model.specs.Table.TableFields.{size_of}
use Rattle.cedar_model.proofs.MeaningLemmas.SearchStep.{slot_in, number_found, number_missing, number_named, number_own, never_nothing}
use Rattle.cedar_table.proofs.table.Table.number_of.Goals as goal

pub returns-then-child-ne0 : goal.returns-then-child-ne0
returns-then-child-ne0 g c = λ t k.
    let T = c.args.self.now in
    sym (number_named (size_of (fields T)) (cells T) c.args.node t k (λ e. c.if-child-ne0.true (c.child.ensures ∙ e)))

pub stored_at_node-requires : goal.stored_at_node-requires
stored_at_node-requires g c =
    let T = c.args.self.now in
    (search rules, (c.requires.node_in, never_nothing (size_of (fields T)) (cells T) c.args.node c.requires.node.0 c.requires.node.1))

pub returns-in-OwnNumber : goal.returns-in-OwnNumber
returns-in-OwnNumber g c = λ t k.
    let T = c.args.self.now in
    let fits : FitsSigned w32 c.in-OwnNumber.value = search rules in
    ap Some (to_z-of_z w32 c.in-OwnNumber.value fits) ∙ sym (number_own (size_of (fields T)) (cells T) c.args.node t k c.in-OwnNumber.value (sym c.stored_at_node.ensures ∙ c.in-OwnNumber.is))

pub is_owned_by-requires : goal.is_owned_by-requires
is_owned_by-requires g c =
    let T = c.args.self.now in
    let within : c.in-AtBase.base < size_of (fields T) = subst (λ x. x < size_of (fields T)) (xor_zero_r c.in-AtBase.base) (slot_in (size_of (fields T)) (cells T) c.args.node c.requires.node.0 c.requires.node.1 c.in-AtBase.base 0 (sym c.stored_at_node.ensures ∙ c.in-AtBase.is) (omega arith) (omega (arith, T.shaped.blocks.some)) (omega arith)) in
    (search rules, (within, c.requires.node_in))

pub base-requires : goal.base-requires
base-requires g c =
    let T = c.args.self.now in
    let within : c.in-AtBase.base < size_of (fields T) = subst (λ x. x < size_of (fields T)) (xor_zero_r c.in-AtBase.base) (slot_in (size_of (fields T)) (cells T) c.args.node c.requires.node.0 c.requires.node.1 c.in-AtBase.base 0 (sym c.stored_at_node.ensures ∙ c.in-AtBase.is) (omega arith) (omega (arith, T.shaped.blocks.some)) (omega arith)) in
    (search rules, omega (arith, within, T.shaped.blocks.active_in))

pub returns-then-is_owned_by : goal.returns-then-is_owned_by
returns-then-is_owned_by g c = λ t k.
    let T = c.args.self.now in
    let fits : FitsSigned w32 c.base.result = search rules in
    let held = number_found (size_of (fields T)) (cells T) c.args.node t k c.in-AtBase.base (sym c.stored_at_node.ensures ∙ c.in-AtBase.is) (c.is_owned_by.ensures.0 c.if-is_owned_by.true) in
    ap Some (to_z-of_z w32 c.base.result fits ∙ c.base.ensures) ∙ sym held

pub returns-else-is_owned_by : goal.returns-else-is_owned_by
returns-else-is_owned_by g c = λ t k.
    let T = c.args.self.now in
    sym (number_missing (size_of (fields T)) (cells T) c.args.node t k c.in-AtBase.base (sym c.stored_at_node.ensures ∙ c.in-AtBase.is) (λ e. let yes = c.is_owned_by.ensures.1 e in cc))

pub returns-in-Nothing : goal.returns-in-Nothing
returns-in-Nothing g c = λ t k. absurd (never_nothing _ _ c.args.node t k (sym c.stored_at_node.ensures ∙ c.in-Nothing.is))
