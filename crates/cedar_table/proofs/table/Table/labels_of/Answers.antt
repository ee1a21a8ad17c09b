use Rattle.std.proofs.Common.{◌≡◌, ◌<◌, ◌∙◌, ap, arith, rules, subst, sym, bit_xor, length, ℕ, ◌++◌}
use Rattle.cedar_model.specs.Meaning.Family.{base_of, below, owned_slots}
use Rattle.cedar_table.specs.Table.Views.{cells, fields}
use Rattle.cedar_model.specs.Table.TableFields.{size_of}
use Rattle.cedar_model.proofs.MeaningLemmas.LabelList.{listed_all, listed_next, listed_none, owned_split}
use Rattle.cedar_model.proofs.RelocationLemmas.Repointed.{base_within}
use Rattle.cedar_model.proofs.MeaningLemmas.ExclusiveOr.{xor_within}
use Rattle.cedar_table.proofs.LabelLemmas.{listed_more}
use Rattle.cedar_table.proofs.table.Table.labels_of.Goals as goal

pub loop-label-init : goal.loop-label-init
loop-label-init g c =
    let n = c.requires.node in
    listed_none _ _ _ _ n.labels (c.first_label-label.ensures n.head n.labels n.family)

pub sibling-label-requires : goal.sibling-label-requires
sibling-label-requires g c =
    let T = cells c.args.self.now in
    let n = c.requires.node in
    let size : ℕ = size_of (fields c.args.self.now) in
    let next = listed_next _ _ _ _ _ _ c.loop-label-test.true c.loop-label.invariant in
    let at : bit_xor c.base_of-base.result c.from.result ≡ below T c.args.node c.loop-label.label = ap (λ b. bit_xor b c.from.result) c.base_of-base.ensures ∙ ap (below T c.args.node) c.from.ensures in
    let inside : below T c.args.node c.loop-label.label < size = xor_within size (base_of T c.args.node) c.loop-label.label (omega arith) (base_within _ _ _ n.head n.labels (omega (arith, c.args.self.now.shaped.blocks.some)) n.family) next.small in
    let here : bit_xor c.base_of-base.result c.from.result < size = subst (λ x. x < size) (sym at) inside in
    (search rules, omega (arith, here, c.args.self.now.shaped.blocks.active_in))

pub loop-label-smaller : goal.loop-label-smaller
loop-label-smaller g c =
    let T = cells c.args.self.now in
    let next = listed_next _ _ _ _ _ _ c.loop-label-test.true c.loop-label.invariant in
    let at : bit_xor c.base_of-base.result c.from.result ≡ below T c.args.node c.loop-label.label = ap (λ b. bit_xor b c.from.result) c.base_of-base.ensures ∙ ap (below T c.args.node) c.from.ensures in
    next.less c.sibling-label.result (c.sibling-label.ensures ∙ ap T.sibling at)

pub loop-label-preserved : goal.loop-label-preserved
loop-label-preserved g c =
    let T = cells c.args.self.now in
    let next = listed_next _ _ _ _ _ _ c.loop-label-test.true c.loop-label.invariant in
    let at : bit_xor c.base_of-base.result c.from.result ≡ below T c.args.node c.loop-label.label = ap (λ b. bit_xor b c.from.result) c.base_of-base.ensures ∙ ap (below T c.args.node) c.from.ensures in
    next.on c.sibling-label.result _ (c.sibling-label.ensures ∙ ap T.sibling at) c.push.ensures.items

pub returns-then-len : goal.returns-then-len
returns-then-len g c = λ h ls f.
    let more = listed_more _ _ _ _ _ _ c.loop-label-test.true c.loop-label.invariant ls (c.first_label-label.ensures h ls f) in
    let owned : c.number_label-labels.result.items ++ ls ≡ owned_slots h ls = ap (λ v. v ++ ls) (c.number_label-labels.ensures h ls f) ∙ owned_split h ls in
    let full : c.len.result ≡ length c.loop-label.labels.items = c.len.ensures.value in
    omega (arith, more, ap length owned, full, c.if-len.true)

pub returns : goal.returns
returns g c = λ h ls f.
    listed_all _ _ _ _ _ _ (search rules) c.loop-label.invariant ls (c.first_label-label.ensures h ls f)
    ∙ ap (λ v. v ++ ls) (c.number_label-labels.ensures h ls f) ∙ owned_split h ls
