use Rattle.std.proofs.Common.{◌≡◌, ◌∙◌, ◌<◌, ap, arith, refl, rules, subst, sym}
use lib.Bits.{xor_zero_r}
use Rattle.cedar_model.specs.Meaning.Family.{below}
use Rattle.cedar_table.specs.Table.Views.{cells, fields}
use Rattle.cedar_model.specs.Table.TableFields.{size_of}
use Rattle.cedar_model.proofs.MeaningLemmas.LabelList.{after_number}
use Rattle.cedar_model.proofs.RelocationLemmas.Repointed.{base_within, chain_kept}
use Rattle.cedar_table.proofs.table.Table.first_label.Goals as goal

pub sibling-requires : goal.sibling-requires
sibling-requires g c =
    let n = c.requires.node in
    let inside : c.base_of.result < size_of (fields c.args.self.now) = subst (λ s. s < size_of (fields c.args.self.now)) (sym c.base_of.ensures) (base_within _ _ _ n.head n.labels (omega (arith, c.args.self.now.shaped.blocks.some)) n.family) in
    (search rules, omega (arith, inside, c.args.self.now.shaped.blocks.active_in))

pub returns-then-has_number_slot : goal.returns-then-has_number_slot
returns-then-has_number_slot g c = λ h ls f.
    let T = cells c.args.self.now in
    let at : c.base_of.result ≡ below T c.args.node 0 = c.base_of.ensures ∙ sym (xor_zero_r _) in
    after_number _ T c.args.node c.base_of.result c.sibling.result h ls c.requires.not_root at (ap T.check at ∙ c.has_number_slot.ensures.0 c.if-has_number_slot.true) c.sibling.ensures f

pub returns : goal.returns
returns g c =
    chain_kept (cells c.args.self.now) c.args.node 0 _ c.requires.not_root refl c.child.result _ (λ o. let yes = c.has_number_slot.ensures.1 o in cc) c.child.ensures
