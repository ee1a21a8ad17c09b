use Rattle.cedar_plan.proofs.Withdrawing.{withdrawal_is_safe}
use Rattle.cedar_plan.proofs.laws.withdrawals_are_safe.Goals as goal

pub returns : goal.returns
returns c = withdrawal_is_safe
