use Rattle.std.proofs.Common.{◌≡◌, ◌<◌, ◌%◌, arith, subst, sym, ◌∙◌, inl, inr}
use Rattle.cedar_model.specs.Edit.NodeEdits.{IsLabelOf}
use Rattle.cedar_model.specs.Meaning.Family.{base_of, Links}
use Rattle.cedar_table.specs.Table.Views.{cells, fields}
use Rattle.cedar_model.specs.Table.TableFields.{size_of}
use Rattle.cedar_model.proofs.MeaningLemmas.Chain.{links_next, strictly_below}
use Rattle.cedar_model.proofs.MeaningLemmas.ExclusiveOr.{xor_within}
use Rattle.cedar_edit.proofs.edit.leaf.last_before.Goals as goal
use Rattle.cedar_edit.proofs.edit.leaf.last_before.Goals.{then-not-ordered-via-then-not-ordered, then-not-ordered-via-else-not-ordered+then-next-eq0, then-not-ordered-via-else-not-ordered+else-next-eq0+then-label-next}

pub returns-then-not-ordered : goal.returns-then-not-ordered
returns-then-not-ordered g c =
    let T = cells c.args.table.now in
    let i = c.loop-step.invariant in
    let next : c.sibling-next.result ≡ T.sibling c.loop-step.before = c.sibling-next.ensures in
    record {
      inside = i.inside;
      behind = i.behind;
      place = λ is. elim c.then-not-ordered.branch [
        | then-not-ordered-via-then-not-ordered w ↦ let no = w.if-not-ordered.true in let told = c.ordered.ensures in cc
        | then-not-ordered-via-else-not-ordered+then-next-eq0 w ↦ inl (sym next ∙ w.if-next-eq0.true)
        | then-not-ordered-via-else-not-ordered+else-next-eq0+then-label-next w ↦ inr (subst (λ x. c.args.label < x) next w.if-label-next.true)
      ];
    }

pub loop-step-preserved : goal.loop-step-preserved
loop-step-preserved g c =
    let T = cells c.args.table.now in
    let i = c.loop-step.invariant in
    let next = c.sibling-next.result in
    let links : Links T c.args.node next i.rest = subst (λ x. Links T c.args.node x i.rest) (sym c.sibling-next.ensures) i.links in
    let n = links_next T c.args.node next i.rest links c.if-next-eq0.false in
    let less : next < c.args.label = strictly_below T c.args.node next c.args.label n.label.owner (λ more. omega (arith, c.if-label-next.false, more)) c.requires.absent in
    let at = sym c.child_slot-before.ensures in
    let whole : size_of (fields c.args.table.now) % 256 ≡ 0 = omega arith in
    record {
      inside = subst (λ x. x < size_of (fields c.args.table.now)) at (xor_within (size_of (fields c.args.table.now)) (base_of T c.args.node) next whole c.requires.based n.label.small);
      behind = inr (sym c.ordered.ensures ∙ c.if-not-ordered.false, next, less, subst (IsLabelOf T c.args.node next) at n.label);
      rest = n.rest;
      links = subst (λ x. Links T c.args.node (T.sibling x) n.rest) at n.links;
      short = omega (arith, n.shorter, i.short);
    }
