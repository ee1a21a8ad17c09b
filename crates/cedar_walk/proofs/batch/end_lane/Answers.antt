use Rattle.std.proofs.Common.{rules, ◌≡◌, ap, sym, subst, ◌∙◌, Some, None, ℤ, w32, FitsSigned, length, drop}
use Rattle.std.proofs.lemmas.Int.{to_z-of_z}
use Rattle.cedar_model.specs.Tree.{number_at}
use Rattle.cedar_table.specs.Table.Views.{fields}
use Rattle.cedar_model.specs.Meaning.WellFormed.{tree_of}
use Rattle.cedar_walk.specs.Batch.{IsLane}
use Rattle.cedar_model.proofs.MeaningLemmas.SearchStep.{at_end, exact_is}
use Rattle.cedar_walk.proofs.batch.end_lane.Goals as goal

pub returns-in_err-node : goal.returns-in_err-node
returns-in_err-node g c =
    let T = fields c.args.table.now in let k = c.args.key.now in
    let missed : number_at (tree_of T) k ≡ None = subst (IsLane T k c.args.passed) c.in_err-node.was c.requires in
    c.from_residual.ensures ∙ sym (exact_is (tree_of T) k None missed)

pub loop-at-init : goal.loop-at-init
loop-at-init g c = subst (IsLane (fields c.args.table.now) c.args.key.now c.args.passed) c.in_ok-node.was c.requires

pub returns-in_err-node-2 : goal.returns-in_err-node-2
returns-in_err-node-2 g c = c.from_residual-in_err-node-2.ensures ∙ sym (exact_is (tree_of (fields c.args.table.now)) c.args.key.now None c.in_err-node-2.ensures)

pub loop-at-preserved : goal.loop-at-preserved
loop-at-preserved g c = c.in_ok-node-2.ensures

pub returns-in_err-value : goal.returns-in_err-value
returns-in_err-value g c =
    let i = c.loop-at.invariant in let k = c.args.key.now in
    let end : number_at i.1.0 (drop c.loop-at.at k) ≡ None = at_end i.1.0 k c.loop-at.at c.loop-at-test.false ∙ sym (c.in_err-value.ensures.answer i.1.0 i.1.1) in
    c.from_residual-in_err-value.ensures ∙ sym (exact_is (tree_of (fields c.args.table.now)) k None (i.1.2 ∙ end))

pub returns : goal.returns
returns g c =
    let i = c.loop-at.invariant in let k = c.args.key.now in
    let fits : FitsSigned w32 c.in_ok-value.value = search rules in
    let end : number_at i.1.0 (drop c.loop-at.at k) ≡ Some c.in_ok-value.value = at_end i.1.0 k c.loop-at.at c.loop-at-test.false ∙ sym (c.in_ok-value.ensures.answer i.1.0 i.1.1) in
    ap (λ (v : ℤ). Some (v, length k)) (to_z-of_z w32 c.in_ok-value.value fits)
    ∙ sym (exact_is (tree_of (fields c.args.table.now)) k (Some c.in_ok-value.value) (i.1.2 ∙ end))
