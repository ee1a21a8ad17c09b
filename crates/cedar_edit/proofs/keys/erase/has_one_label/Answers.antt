use Rattle.std.proofs.Common.{◌∙◌, sym}
use Rattle.std.proofs.lemmas.Bool.{eqb-true, eq-eqb}
use Rattle.cedar_edit.proofs.keys.erase.has_one_label.Goals as goal

pub returns-then-child-label : goal.returns-then-child-label
returns-then-child-label g c = (
  λ t. (sym c.child.ensures ∙ c.if-child-label.true, sym c.sibling.ensures ∙ eqb-true c.sibling.result 0 t),
  λ h. eq-eqb c.sibling.result 0 (c.sibling.ensures ∙ h.1),
)

pub returns-else-child-label : goal.returns-else-child-label
returns-else-child-label g c = (
  λ t. absurd (c.if-child-label.false (eqb-true c.child.result c.args.label t)),
  λ h. absurd (c.if-child-label.false (c.child.ensures ∙ h.0)),
)
