use Rattle.std.proofs.Common.{◌≡◌, ◌∙◌, ◌<◌, ap, arith, inr, refl, rules, subst, sym}
use lib.Bits.{xor_zero_r}
use Rattle.cedar_model.specs.Meaning.Family.{below}
use Rattle.cedar_table.specs.Table.Views.{cells, fields}
use Rattle.cedar_model.specs.Table.TableFields.{size_of}
use Rattle.cedar_model.proofs.RelocationLemmas.Repointed.{base_within, chain_given, chain_kept, no_number, number_given}
use Rattle.cedar_edit.proofs.relocation.moving.repoint_number.Goals as goal

pub set_check-requires : goal.set_check-requires
set_check-requires g c =
    let n = c.requires.node in
    let T = cells c.args.table.now in
    let at = c.base_of-slot.ensures ∙ sym (xor_zero_r _) in
    (search rules, (c.requires.sound, (subst (λ s. s < size_of (fields c.args.table.now)) (sym c.base_of-slot.ensures) (base_within _ _ _ n.head n.labels (omega (arith, c.args.table.now.shaped.blocks.some)) n.family), (inr (c.args.from, ap T.check at ∙ c.has_number_slot.ensures.0 c.if-has_number_slot.true), c.requires.to_in))))

pub sibling-requires : goal.sibling-requires
sibling-requires g c =
    let n = c.requires.node in
    let inside : c.base_of-slot.result < size_of (fields c.args.table.now) = subst (λ s. s < size_of (fields c.args.table.now)) (sym c.base_of-slot.ensures) (base_within _ _ _ n.head n.labels (omega (arith, c.args.table.now.shaped.blocks.some)) n.family) in
    (search rules, omega (arith, inside, c.set_check.ensures.frame.capacity, c.args.table.now.shaped.blocks.active_in))

pub returns-then-has_number_slot-clause-number : goal.returns-then-has_number_slot-clause-number
returns-then-has_number_slot-clause-number g c =
    let T = cells c.args.table.now in
    let at : c.base_of-slot.result ≡ below T c.args.from 0 = c.base_of-slot.ensures ∙ sym (xor_zero_r _) in
    number_given T c.args.from c.args.to c.base_of-slot.result c.requires.not_root at _ (ap T.check at ∙ c.has_number_slot.ensures.0 c.if-has_number_slot.true) c.set_check.ensures.at

pub returns-then-has_number_slot-clause-chain : goal.returns-then-has_number_slot-clause-chain
returns-then-has_number_slot-clause-chain g c =
    let T = cells c.args.table.now in
    let at : c.base_of-slot.result ≡ below T c.args.from 0 = c.base_of-slot.ensures ∙ sym (xor_zero_r _) in
    chain_given T c.args.from c.args.to c.base_of-slot.result c.requires.not_root at _ c.sibling.result _ (ap T.check at ∙ c.has_number_slot.ensures.0 c.if-has_number_slot.true) c.set_check.ensures.at c.sibling.ensures

pub returns-clause-number : goal.returns-clause-number
returns-clause-number g c =
    no_number (cells c.args.table.now) c.args.from c.args.to _ c.requires.not_root refl (λ o. let yes = c.has_number_slot.ensures.1 o in cc)

pub returns-clause-chain : goal.returns-clause-chain
returns-clause-chain g c =
    chain_kept (cells c.args.table.now) c.args.from c.args.to _ c.requires.not_root refl c.child.result _ (λ o. let yes = c.has_number_slot.ensures.1 o in cc) c.child.ensures
