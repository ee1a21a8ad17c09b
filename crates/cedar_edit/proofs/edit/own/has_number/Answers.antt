use Rattle.std.proofs.Common.{◌<◌, arith, rules, sym, ◌∙◌, ap, subst}
use Rattle.std.specs.Prelude.{is_some}
use lib.Bits.{xor_zero_r}
use Rattle.cedar_table.specs.Table.Views.{cells, fields}
use Rattle.cedar_model.specs.Table.TableFields.{size_of}
use Rattle.cedar_model.proofs.MeaningLemmas.NodeAtPath.{at_node}
use Rattle.cedar_model.proofs.MeaningLemmas.SearchStep.{never_nothing, number_found, number_missing, number_own, slot_in}
use Rattle.cedar_model.proofs.EditLemmas.OwnNumber.{told}
use Rattle.cedar_edit.proofs.edit.own.has_number.Goals as goal

pub is_owned_by-requires : goal.is_owned_by-requires
is_owned_by-requires g c =
    let T = c.args.table.now in
    let n = c.requires.node.1 in
    let st = at_node (size_of (fields T)) (cells T) c.requires.node.0 n.path c.args.node n.holds n.at in
    let within : c.in-AtBase.base < size_of (fields T) = subst (λ x. x < size_of (fields T)) (xor_zero_r c.in-AtBase.base) (slot_in (size_of (fields T)) (cells T) c.args.node _ st c.in-AtBase.base 0 (sym c.stored_at.ensures ∙ c.in-AtBase.is) (omega arith) (omega (arith, T.shaped.blocks.some)) (omega arith)) in
    (search rules, (within, c.requires.node_in))

pub returns-in-AtBase : goal.returns-in-AtBase
returns-in-AtBase g c = λ f w h at.
    let T = c.args.table.now in
    let st = at_node (size_of (fields T)) (cells T) f w c.args.node h at in
    let is = sym c.stored_at.ensures ∙ c.in-AtBase.is in
    told c.is_owned_by.result _ (λ yes. ap is_some (number_found (size_of (fields T)) (cells T) c.args.node _ st c.in-AtBase.base is (c.is_owned_by.ensures.0 yes)))
    (λ no. ap is_some (number_missing (size_of (fields T)) (cells T) c.args.node _ st c.in-AtBase.base is (λ o. no (c.is_owned_by.ensures.1 o))))

pub returns-in-OwnNumber : goal.returns-in-OwnNumber
returns-in-OwnNumber g c = λ f w h at.
    let T = c.args.table.now in
    sym (ap is_some (number_own (size_of (fields T)) (cells T) c.args.node _ (at_node (size_of (fields T)) (cells T) f w c.args.node h at) c.in-OwnNumber.field-0 (sym c.stored_at.ensures ∙ c.in-OwnNumber.is)))

pub returns-in-Nothing : goal.returns-in-Nothing
returns-in-Nothing g c = λ f w h at.
    let T = c.args.table.now in
    absurd (never_nothing _ _ c.args.node _ (at_node (size_of (fields T)) (cells T) f w c.args.node h at) (sym c.stored_at.ensures ∙ c.in-Nothing.is))
