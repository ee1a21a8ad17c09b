use Rattle.std.proofs.Common.{inl, inr}
use Rattle.cedar_c.proofs.planned.cedar_plan_may_cut_records.Goals as goal

pub returns-in-Ok-clause-none : goal.returns-in-Ok-clause-none
returns-in-Ok-clause-none c = λ is. inr (c.in-Ok.extent, c.in-Ok.ensures.extent, c.may_cut_records.ensures.none is)

pub returns-in-Ok-clause-some : goal.returns-in-Ok-clause-some
returns-in-Ok-clause-some c = λ is. (c.in-Ok.extent, c.in-Ok.ensures.extent, c.may_cut_records.ensures.some is)
