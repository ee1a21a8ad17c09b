use Rattle.std.proofs.Common.{◌≡◌, ◌∙◌, ◌<◌, ap, arith, rules, bit_xor, ℕ}
use Rattle.cedar_model.specs.Meaning.Family.{below, owned_slots}
use Rattle.cedar_table.specs.Table.Views.{cells, fields}
use Rattle.cedar_model.specs.Table.TableFields.{size_of}
use Rattle.cedar_model.specs.Relocation.Wanted.{rest_of}
use Rattle.cedar_model.proofs.RelocationLemmas.LongerChain.{is_longer_if, label_inside, step_none, step_on, walked_on}
use Rattle.cedar_edit.proofs.relocation.resolve.is_longer.Goals as goal
use Rattle.cedar_edit.proofs.relocation.resolve.is_longer.Goals.{then-loop-left-test+else-right-ne0, else-loop-left-test}

pub loop-left-init : goal.loop-left-init
loop-left-init g c =
    let n = c.requires.one_node in let m = c.requires.other_node in
    step_none _ _ _ _ _ _ _ (c.second_label-left.ensures n.head n.labels n.family) (c.second_label-right.ensures m.head m.labels m.family)

pub sibling-left-requires : goal.sibling-left-requires
sibling-left-requires g c =
    let n = c.requires.one_node in
    let size : ℕ = size_of (fields c.args.table.now) in
    let small = (walked_on _ _ _ _ _ c.loop-left-test.true c.loop-left.invariant.left).small in
    let inside : bit_xor c.base_of-left_base.result c.from.result < size = label_inside size (cells c.args.table.now) c.args.one c.base_of-left_base.result c.from.result n.head n.labels (omega arith) (omega (arith, c.args.table.now.shaped.blocks.some)) n.family c.base_of-left_base.ensures (omega (arith, c.from.ensures, small)) in
    (search rules, omega (arith, inside, c.args.table.now.shaped.blocks.active_in))

pub sibling-right-requires : goal.sibling-right-requires
sibling-right-requires g c =
    let n = c.requires.other_node in
    let size : ℕ = size_of (fields c.args.table.now) in
    let small = (walked_on _ _ _ _ _ c.if-right-ne0.true c.loop-left.invariant.right).small in
    let inside : bit_xor c.base_of-right_base.result c.from-in-loop-left.result < size = label_inside size (cells c.args.table.now) c.args.other c.base_of-right_base.result c.from-in-loop-left.result n.head n.labels (omega arith) (omega (arith, c.args.table.now.shaped.blocks.some)) n.family c.base_of-right_base.ensures (omega (arith, c.from-in-loop-left.ensures, small)) in
    (search rules, omega (arith, inside, c.args.table.now.shaped.blocks.active_in))

pub loop-left-smaller : goal.loop-left-smaller
loop-left-smaller g c =
    let T = cells c.args.table.now in
    let at : bit_xor c.base_of-left_base.result c.from.result ≡ below T c.args.one c.loop-left.left = ap (λ b. bit_xor b c.from.result) c.base_of-left_base.ensures ∙ ap (below T c.args.one) c.from.ensures in
    (walked_on _ _ _ _ _ c.loop-left-test.true c.loop-left.invariant.left).less c.sibling-left.result (c.sibling-left.ensures ∙ ap T.sibling at)

pub loop-left-preserved : goal.loop-left-preserved
loop-left-preserved g c =
    let T = cells c.args.table.now in
    let at : bit_xor c.base_of-left_base.result c.from.result ≡ below T c.args.one c.loop-left.left = ap (λ b. bit_xor b c.from.result) c.base_of-left_base.ensures ∙ ap (below T c.args.one) c.from.ensures in
    let there : bit_xor c.base_of-right_base.result c.from-in-loop-left.result ≡ below T c.args.other c.loop-left.right = ap (λ b. bit_xor b c.from-in-loop-left.result) c.base_of-right_base.ensures ∙ ap (below T c.args.other) c.from-in-loop-left.ensures in
    step_on T c.args.one c.args.other _ _ c.loop-left.left c.loop-left.right _ _ c.loop-left-test.true c.if-right-ne0.true (c.sibling-left.ensures ∙ ap T.sibling at) (c.sibling-right.ensures ∙ ap T.sibling there) c.loop-left.invariant

pub returns : goal.returns
returns g c = λ h k ls ms f e.
    is_longer_if _ c.args.one c.args.other _ _ _ _ c.loop-left.invariant (rest_of (owned_slots h ls)) (rest_of (owned_slots k ms)) (c.second_label-left.ensures h ls f) (c.second_label-right.ensures k ms e)
    (λ n. elim c.loop-left-test.branch [ then-loop-left-test+else-right-ne0 w ↦ w.if-right-ne0.false | else-loop-left-test w ↦ absurd (n w.loop-left-test.false) ])
