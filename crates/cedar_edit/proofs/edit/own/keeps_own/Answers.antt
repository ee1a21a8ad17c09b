use Rattle.std.proofs.Common.{◌∙◌, sym}
use Rattle.std.proofs.lemmas.Bool.{eqb-true, eq-eqb}
use Rattle.cedar_edit.proofs.edit.own.keeps_own.Goals as goal

pub returns-then-keeps_numbers : goal.returns-then-keeps_numbers
returns-then-keeps_numbers g c = (
  λ yes. (c.keeps_numbers.ensures.0 c.if-keeps_numbers.true, sym c.base_of.ensures ∙ eqb-true c.base_of.result 0 yes),
  λ k. eq-eqb c.base_of.result 0 (c.base_of.ensures ∙ k.1),
)

pub returns-else-keeps_numbers : goal.returns-else-keeps_numbers
returns-else-keeps_numbers g c = (
  λ yes. absurd (cc),
  λ k. let on = c.keeps_numbers.ensures.1 k.0 in let off = c.if-keeps_numbers.false in cc,
)
