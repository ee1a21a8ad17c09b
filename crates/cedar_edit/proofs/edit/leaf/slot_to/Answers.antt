use Rattle.std.proofs.Common.{◌≡◌, ◌<◌, ◌∙◌, ap, arith, inr, subst, sym}
use Rattle.cedar_model.specs.Edit.NodeEdits.{IsLabelOf}
use Rattle.cedar_model.specs.Meaning.Family.{Among, base_of, below, Links}
use Rattle.cedar_table.specs.Table.Views.{cells, fields}
use Rattle.cedar_model.specs.Table.TableFields.{size_of}
use Rattle.cedar_model.proofs.MeaningLemmas.OneNode.{owned_label}
use Rattle.cedar_model.proofs.MeaningLemmas.ExclusiveOr.{xor_within}
use Rattle.cedar_model.proofs.MeaningLemmas.ChainWalk.{first_along, links_past}
use Rattle.cedar_edit.proofs.edit.leaf.slot_to.Goals as goal

pub loop-step-init : goal.loop-step-init
loop-step-init g c =
    let T = cells c.args.table.now in
    let size = size_of (fields c.args.table.now) in
    let k = c.requires.chain in
    let first = c.child-first.result in
    let same : first ≡ T.child c.args.node = c.child-first.ensures in
    let i : Among k.listed c.args.label = owned_label size T c.args.node c.args.label k.head k.listed k.family (λ z. omega (arith, z, c.requires.positive)) c.requires.owned in
    let e : c.child_slot-before.result ≡ below T c.args.node first = c.child_slot-before.ensures in
    let w = first_along size T (fields c.args.table.now).ordered c.args.node c.args.label c.child_slot-before.result k i (λ z. c.if-first-label.false (same ∙ z)) (e ∙ ap (below T c.args.node) same) in
    record {
      inside = subst (λ x. x < size) (sym e) (xor_within size (base_of T c.args.node) first (omega arith) c.requires.based (omega (arith, c.child-first.type_inv)));
      link = w.link;
      rest = w.rest;
      links = w.links;
      has = w.has;
      short = omega (arith, w.short);
    }

pub returns-then-next-label : goal.returns-then-next-label
returns-then-next-label g c = record {
  inside = c.loop-step.invariant.inside;
  link = c.loop-step.invariant.link;
  next = sym c.sibling-next.ensures ∙ c.if-next-label.true;
}

pub loop-step-preserved : goal.loop-step-preserved
loop-step-preserved g c =
    let T = cells c.args.table.now in
    let size = size_of (fields c.args.table.now) in
    let i = c.loop-step.invariant in
    let next = c.sibling-next.result in
    let links : Links T c.args.node next i.rest = subst (λ x. Links T c.args.node x i.rest) (sym c.sibling-next.ensures) i.links in
    let n = links_past T c.args.node next c.args.label i.rest links i.has c.if-next-label.false in
    let at = sym c.child_slot-before-in-loop-step.ensures in
    record {
      inside = subst (λ x. x < size) at (xor_within size (base_of T c.args.node) next (omega arith) c.requires.based n.label.small);
      link = inr (next, subst (IsLabelOf T c.args.node next) at n.label);
      rest = n.rest;
      links = subst (λ x. Links T c.args.node (T.sibling x) n.rest) at n.links;
      has = n.has;
      short = omega (arith, n.shorter, i.short);
    }
