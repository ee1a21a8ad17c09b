use Rattle.std.proofs.Common.{rules, ◌≡◌, sym, ◌∙◌, ap, refl, negsuc, w32, FitsSigned, of_z, to_z}
use Rattle.std.proofs.lemmas.Int.{to_z-of_z}
use Rattle.cedar_model.specs.declared.layout.Stored.TheVariants.{AtBase}
use Rattle.cedar_model.specs.Meaning.Family.{base_in}
use Rattle.cedar_model.specs.Table.Layouts.{reading}
use Rattle.cedar_table.specs.Table.Views.{cells}
use Rattle.cedar_file.proofs.TreeLemmas.WhatIsRead.{same_walk}
use Rattle.cedar_file.proofs.check.tree.begin_walk.Goals.{then-base-ne0-via-then-base-ne0, then-base-ne0-via-else-base-ne0+then-root}
use Rattle.cedar_file.proofs.check.tree.begin_walk.Goals as goal

pub returns-in_default-clause-faulty : goal.returns-in_default-clause-faulty
returns-in_default-clause-faulty g c = λ root.
    let fits : FitsSigned w32 c.read_node-root.result.base = search rules in
    c.in_default.not-AtBase 0 (c.read_base.ensures ∙ ap (reading g.L.Layout.kind) (to_z-of_z w32 c.read_node-root.result.base fits) ∙ c.read_node-root.ensures.stored ∙ root.stored)

pub returns-then-base-ne0-clause-faulty : goal.returns-then-base-ne0-clause-faulty
returns-then-base-ne0-clause-faulty g c = λ root.
    let fits : FitsSigned w32 c.read_node-root.result.base = search rules in
    elim c.then-base-ne0.branch [
      | then-base-ne0-via-then-base-ne0 w ↦ w.if-base-ne0.true (ap base_in (sym c.in-AtBase.is ∙ c.read_base.ensures ∙ ap (reading g.L.Layout.kind) (to_z-of_z w32 c.read_node-root.result.base fits) ∙ c.read_node-root.ensures.stored ∙ root.stored))
      | then-base-ne0-via-else-base-ne0+then-root w ↦ w.if-root.true (ap (of_z w32) (c.read_node-root.ensures.check ∙ root.check))
    ]

pub returns-clause-root : goal.returns-clause-root
returns-clause-root g c =
    let fits : FitsSigned w32 c.read_node-root.result.base = search rules in
    let stored : (cells c.args.table.now).stored 0 ≡ AtBase 0 = sym c.read_node-root.ensures.stored ∙ sym (ap (reading g.L.Layout.kind) (to_z-of_z w32 c.read_node-root.result.base fits)) ∙ sym c.read_base.ensures ∙ c.in-AtBase.is ∙ ap AtBase c.if-base-ne0.false in
    let fits_check : FitsSigned w32 c.read_node-root.result.check = search rules in
    let check : (cells c.args.table.now).check 0 ≡ negsuc 0 = sym c.read_node-root.ensures.check ∙ sym (to_z-of_z w32 c.read_node-root.result.check fits_check) ∙ ap (to_z w32) c.if-root.false in (
      record { check = check; stored = stored; child = sym c.read_info-info.ensures.child ∙ c.if-info-ne0.false },
      same_walk 0 _ _ _ _ _ _ _ _ (sym (ap base_in stored)) c.read_info-info.ensures.sibling refl refl,
    )
