use Rattle.cedar_plan.proofs.Opening.{opening_is_safe}
use Rattle.cedar_plan.proofs.laws.openings_are_safe.Goals as goal

pub returns : goal.returns
returns c = opening_is_safe
