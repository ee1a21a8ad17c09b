use Rattle.std.proofs.Common.{◌≡◌, ◌∙◌, ◌<◌, ap, arith, rules, subst, sym, bit_xor, ℕ}
use lib.Bits.{xor_zero_r}
use Rattle.cedar_model.specs.Meaning.Family.{below}
use Rattle.cedar_table.specs.Table.Views.{cells, fields}
use Rattle.cedar_model.specs.Table.TableFields.{size_of}
use Rattle.cedar_model.proofs.RelocationLemmas.Repointed.{base_within}
use Rattle.cedar_model.proofs.RelocationLemmas.LongerChain.{label_inside, second_after, second_none, second_valued}
use Rattle.cedar_edit.proofs.relocation.resolve.second_label.Goals as goal

pub sibling-requires : goal.sibling-requires
sibling-requires g c =
    let n = c.requires.node in
    let inside : c.base_of-base.result < size_of (fields c.args.table.now) = subst (λ s. s < size_of (fields c.args.table.now)) (sym c.base_of-base.ensures) (base_within _ _ _ n.head n.labels (omega (arith, c.args.table.now.shaped.blocks.some)) n.family) in
    (search rules, omega (arith, inside, c.args.table.now.shaped.blocks.active_in))

pub returns-then-has_number_slot : goal.returns-then-has_number_slot
returns-then-has_number_slot g c = λ h ls f.
    second_valued _ (cells c.args.table.now) c.args.node c.base_of-base.result c.sibling.result h ls c.requires.not_root (c.base_of-base.ensures ∙ sym (xor_zero_r _)) (ap (cells c.args.table.now).check (c.base_of-base.ensures ∙ sym (xor_zero_r _)) ∙ c.has_number_slot.ensures.0 c.if-has_number_slot.true) c.sibling.ensures f

pub returns-then-first-eq0 : goal.returns-then-first-eq0
returns-then-first-eq0 g c = λ h ls f.
    second_none _ (cells c.args.table.now) c.args.node c.base_of-base.result c.child-first.result h ls c.requires.not_root (c.base_of-base.ensures ∙ sym (xor_zero_r _)) (λ o. let yes = c.has_number_slot.ensures.1 (ap (cells c.args.table.now).check (xor_zero_r _ ∙ sym c.base_of-base.ensures) ∙ o) in cc) c.child-first.ensures c.if-first-eq0.true f

pub sibling-requires-2 : goal.sibling-requires-2
sibling-requires-2 g c =
    let n = c.requires.node in
    let size : ℕ = size_of (fields c.args.table.now) in
    let inside : bit_xor c.base_of-base.result c.from.result < size = label_inside size (cells c.args.table.now) c.args.node c.base_of-base.result c.from.result n.head n.labels (omega arith) (omega (arith, c.args.table.now.shaped.blocks.some)) n.family c.base_of-base.ensures (omega (arith, c.from.ensures, c.child-first.type_inv)) in
    (search rules, omega (arith, inside, c.args.table.now.shaped.blocks.active_in))

pub returns : goal.returns
returns g c = λ h ls f.
    let T = cells c.args.table.now in
    let at : bit_xor c.base_of-base.result c.from.result ≡ below T c.args.node c.child-first.result = ap (λ b. bit_xor b c.from.result) c.base_of-base.ensures ∙ ap (below T c.args.node) c.from.ensures in
    second_after _ T c.args.node c.base_of-base.result c.child-first.result _ c.sibling-2.result h ls c.requires.not_root (c.base_of-base.ensures ∙ sym (xor_zero_r _)) (λ o. let yes = c.has_number_slot.ensures.1 (ap (cells c.args.table.now).check (xor_zero_r _ ∙ sym c.base_of-base.ensures) ∙ o) in cc) c.child-first.ensures c.if-first-eq0.false at c.sibling-2.ensures f
