use Rattle.std.proofs.Common.{rules}
use Rattle.cedar_c.proofs.models.best_of_either.Goals as goal

pub returns-then-costs : goal.returns-then-costs
returns-then-costs g c = rw c.if-costs.true (search rules)

pub returns-else-costs : goal.returns-else-costs
returns-else-costs g c = rw c.if-costs.false (search rules)
