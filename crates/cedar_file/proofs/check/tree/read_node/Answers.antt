use Rattle.std.proofs.Common.{◌∙◌, ap, FitsSigned, rules, w32}
use Rattle.std.proofs.lemmas.Int.{to_z-of_z}
use Rattle.cedar_model.specs.Table.Layouts.{reading}
use Rattle.cedar_file.proofs.check.tree.read_node.Goals as goal

pub returns-clause-base : goal.returns-clause-base
returns-clause-base g c =
    let fits : FitsSigned w32 c.base-base.result = search rules in
    to_z-of_z w32 c.base-base.result fits ∙ c.base-base.ensures

pub returns-clause-stored : goal.returns-clause-stored
returns-clause-stored g c =
    let fits : FitsSigned w32 c.base-base.result = search rules in
    ap (reading g.L.Layout.kind) (to_z-of_z w32 c.base-base.result fits ∙ c.base-base.ensures)

pub returns-clause-check : goal.returns-clause-check
returns-clause-check g c =
    let fits : FitsSigned w32 c.check-check.result = search rules in
    to_z-of_z w32 c.check-check.result fits ∙ c.check-check.ensures.cell c.requires

pub returns-clause-counted : goal.returns-clause-counted
returns-clause-counted g c = c.check-check.ensures.counted
