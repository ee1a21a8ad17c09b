use Rattle.std.proofs.Common.{arith}
use Rattle.std.proofs.lemmas.Grind.{common_steps}
use Rattle.cedarwood.proofs.queries.ranged.set_len.Goals as goal

pub returns-clause-long : goal.returns-clause-long
returns-clause-long g c = grind (arith, common_steps)
