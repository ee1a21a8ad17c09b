use Rattle.cedar_plan.proofs.Appending.{append_is_safe}
use Rattle.cedar_plan.proofs.laws.appends_are_safe.Goals as goal

pub returns : goal.returns
returns c = append_is_safe
