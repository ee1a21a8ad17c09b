use Rattle.cedar_runs.proofs.LifeLemmas.{lives_on}
use Rattle.cedar_runs.proofs.laws.acknowledged_calls_stay.Goals as goal

pub returns : goal.returns
returns g c = λ sessions before after s is life. lives_on g.D.Device.seen g.D.Device.moment g.D.Device.left_since g.D.Device.may_leave sessions before after s is life
