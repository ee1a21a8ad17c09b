use Rattle.std.proofs.Common.{sym}
use Rattle.cedar_complete.proofs.ends.ascends.Goals as goal

pub returns-in-Some : goal.returns-in-Some
returns-in-Some g c = sym c.in-Some.ensures.0

pub returns-in-None : goal.returns-in-None
returns-in-None g c = sym c.in-None.ensures
