use Rattle.std.proofs.Common.{rules, ◌≡◌, ◌<◌, sym, ◌∙◌, ap, refl, arith, pos, w32, FitsSigned}
use Rattle.std.specs.Prelude.{bit_xor}
use Rattle.std.proofs.lemmas.Bool.{false≢true}
use Rattle.std.proofs.lemmas.Int.{to_z-of_z}
use Rattle.cedar_model.specs.Meaning.Family.{base_in, base_of, below}
use Rattle.cedar_model.specs.Table.Layouts.{reading}
use Rattle.cedar_table.specs.Table.Views.{cells}
use Rattle.cedar_file.proofs.TreeLemmas.WhatIsRead.{no_owner, same_walk}
use Rattle.cedar_model.proofs.MeaningLemmas.ExclusiveOr.{pos_injective}
use Rattle.cedar_file.proofs.check.tree.go_up.Goals.{else-ordered-via-then-ordered+then-label-ne0+else-from-base, else-ordered-via-then-ordered+else-label-ne0, else-ordered-via-else-ordered}
use Rattle.cedar_file.proofs.check.tree.go_up.Goals as goal

pub returns-in_default-clause-faulty : goal.returns-in_default-clause-faulty
returns-in_default-clause-faulty g c = λ o up.
    let fits : FitsSigned w32 c.read_node-node.result.check = search rules in
    no_owner _ _ _ c.owner_named.ensures (λ v e. c.in_default.not-Some v e) o up.inside (to_z-of_z w32 c.read_node-node.result.check fits ∙ c.read_node-node.ensures.check ∙ up.owner)

pub returns-then-from-base-clause-faulty : goal.returns-then-from-base-clause-faulty
returns-then-from-base-clause-faulty g c = λ o up.
    let T = cells c.args.table.now in
    let fits : FitsSigned w32 c.read_node-node.result.check = search rules in
    let fits_base : FitsSigned w32 c.read_node.result.base = search rules in
    let same : o ≡ c.in-Some.owner = pos_injective _ _ (sym (to_z-of_z w32 c.read_node-node.result.check fits ∙ c.read_node-node.ensures.check ∙ up.owner) ∙ c.in-Some.ensures.0) in
    let base : c.base_in-base.result ≡ base_of T o = c.base_in-base.ensures ∙ ap (λ z. base_in (reading g.L.Layout.kind z)) (to_z-of_z w32 c.read_node.result.base fits_base) ∙ ap base_in c.read_node.ensures.stored ∙ ap (base_of T) (sym same) in
    let at : bit_xor c.base_in-base.result c.args.walk.node ≡ below T o c.args.walk.node = ap (λ b. bit_xor b c.args.walk.node) base in
    let some : 0 < T.sibling c.args.walk.node = omega (arith, c.if-label-ne0.true, c.read_info-label.ensures.sibling) in
    let later = up.ascends (sym c.ordered.ensures ∙ c.if-ordered.true) some in
    omega (arith, at, later, c.if-from-base.true, c.from.ensures, c.read_info-label.ensures.sibling)

pub returns-clause-up : goal.returns-clause-up
returns-clause-up g c =
    let T = cells c.args.table.now in
    let fits : FitsSigned w32 c.read_node-node.result.check = search rules in
    let fits_base : FitsSigned w32 c.read_node.result.base = search rules in
    let base : c.base_in-base.result ≡ base_of T c.in-Some.owner = c.base_in-base.ensures ∙ ap (λ z. base_in (reading g.L.Layout.kind z)) (to_z-of_z w32 c.read_node.result.base fits_base) ∙ ap base_in c.read_node.ensures.stored in
    let owner : T.check c.args.walk.node ≡ pos c.in-Some.owner = sym (to_z-of_z w32 c.read_node-node.result.check fits ∙ c.read_node-node.ensures.check) ∙ c.in-Some.ensures.0 in (
      c.in-Some.owner,
      record {
        ended = c.requires.label;
        not_root = c.requires.not_root;
        owner = owner;
        inside = c.in-Some.ensures.1;
        ascends = λ o p. elim c.else-ordered.branch [
          | else-ordered-via-then-ordered+then-label-ne0+else-from-base w ↦ omega (arith, ap (λ b. bit_xor b c.args.walk.node) base, w.if-from-base.false, w.from.ensures, c.read_info-label.ensures.sibling)
          | else-ordered-via-then-ordered+else-label-ne0 w ↦ absurd (omega (arith, p, w.if-label-ne0.false, c.read_info-label.ensures.sibling))
          | else-ordered-via-else-ordered w ↦ absurd (false≢true (sym w.if-ordered.false ∙ c.ordered.ensures ∙ o))
        ];
      },
      same_walk c.in-Some.owner _ _ _ _ _ _ _ _ base c.read_info-label.ensures.sibling refl refl,
    )
