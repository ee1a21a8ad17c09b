use Rattle.std.proofs.Common.{◌<◌, ap, sym, ◌∙◌, arith, rules, Some, w32, FitsSigned, subst}
use lib.Bits.{xor_zero_r}
use Rattle.std.proofs.lemmas.Int.{to_z-of_z}
use Rattle.cedar_table.specs.Table.Views.{cells, fields}
use Rattle.cedar_model.specs.Table.TableFields.{size_of}
use Rattle.cedar_model.proofs.MeaningLemmas.SearchStep.{slot_in, number_found, number_missing, number_own, never_nothing}
use Rattle.cedar_table.proofs.table.Table.number.Goals as goal

pub stored_at_node-requires : goal.stored_at_node-requires
stored_at_node-requires g c =
    let T = c.args.self.now in
    (search rules, (c.requires.node_in, never_nothing (size_of (fields T)) (cells T) c.args.node c.requires.node.0 c.requires.node.1))

pub returns-in-OwnNumber-clause-answer : goal.returns-in-OwnNumber-clause-answer
returns-in-OwnNumber-clause-answer g c = λ t k.
    let T = c.args.self.now in
    let fits : FitsSigned w32 c.in-OwnNumber.value = search rules in
    ap Some (to_z-of_z w32 c.in-OwnNumber.value fits) ∙ sym (number_own (size_of (fields T)) (cells T) c.args.node t k c.in-OwnNumber.value (sym c.stored_at_node.ensures ∙ c.in-OwnNumber.is))

pub belongs-requires : goal.belongs-requires
belongs-requires g c =
    let T = c.args.self.now in
    let within : c.in-AtBase.base < size_of (fields T) = subst (λ x. x < size_of (fields T)) (xor_zero_r c.in-AtBase.base) (slot_in (size_of (fields T)) (cells T) c.args.node c.requires.node.0 c.requires.node.1 c.in-AtBase.base 0 (sym c.stored_at_node.ensures ∙ c.in-AtBase.is) (omega arith) (omega (arith, T.shaped.blocks.some)) (omega arith)) in
    (search rules, (within, c.requires.node_in))

pub base-requires : goal.base-requires
base-requires g c =
    let T = c.args.self.now in
    let within : c.in-AtBase.base < size_of (fields T) = subst (λ x. x < size_of (fields T)) (xor_zero_r c.in-AtBase.base) (slot_in (size_of (fields T)) (cells T) c.args.node c.requires.node.0 c.requires.node.1 c.in-AtBase.base 0 (sym c.stored_at_node.ensures ∙ c.in-AtBase.is) (omega arith) (omega (arith, T.shaped.blocks.some)) (omega arith)) in
    (search rules, omega (arith, within, T.shaped.blocks.active_in))

pub returns-then-belongs-clause-answer : goal.returns-then-belongs-clause-answer
returns-then-belongs-clause-answer g c = λ t k.
    let T = c.args.self.now in
    let fits : FitsSigned w32 c.base.result = search rules in
    let held = number_found (size_of (fields T)) (cells T) c.args.node t k c.in-AtBase.base (sym c.stored_at_node.ensures ∙ c.in-AtBase.is) (c.belongs.ensures.answer.0 c.if-belongs.true) in
    ap Some (to_z-of_z w32 c.base.result fits ∙ c.base.ensures) ∙ sym held

pub returns-else-belongs-clause-answer : goal.returns-else-belongs-clause-answer
returns-else-belongs-clause-answer g c = λ t k.
    let T = c.args.self.now in
    sym (number_missing (size_of (fields T)) (cells T) c.args.node t k c.in-AtBase.base (sym c.stored_at_node.ensures ∙ c.in-AtBase.is) (λ e. let yes = c.belongs.ensures.answer.1 e in cc))

pub returns-in-Nothing-clause-answer : goal.returns-in-Nothing-clause-answer
returns-in-Nothing-clause-answer g c = λ t k. absurd (never_nothing _ _ c.args.node t k (sym c.stored_at_node.ensures ∙ c.in-Nothing.is))
