use Rattle.std.proofs.Common.{◌∙◌, inr, sym}
use Rattle.cedar_table.specs.Table.Views.{cells, fields}
use Rattle.cedar_model.specs.Table.TableFields.{size_of}
use Rattle.cedar_model.proofs.EditLemmas.Room.{leaf_base}
use Rattle.std.proofs.lemmas.Bool.{eqb-true, eq-eqb}
use Rattle.cedar_edit.proofs.keys.step.is_new_leaf.Goals as goal

pub returns-then-node-ne0-clause-leaf : goal.returns-then-node-ne0-clause-leaf
returns-then-node-ne0-clause-leaf g c = λ is.
    let n = c.requires.node in
    (c.if-node-ne0.true, leaf_base (size_of (fields c.args.table.now)) (cells c.args.table.now) (fields c.args.table.now).ordered n.0 c.args.node n.1 c.if-node-ne0.true c.requires.no_own_number (sym c.base_of.ensures ∙ eqb-true c.base_of.result 0 is))

pub returns-then-node-ne0-clause-based : goal.returns-then-node-ne0-clause-based
returns-then-node-ne0-clause-based g c = λ not. inr (λ e. not (eq-eqb c.base_of.result 0 (c.base_of.ensures ∙ e)))
