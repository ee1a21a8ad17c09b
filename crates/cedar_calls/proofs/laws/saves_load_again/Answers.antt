use Rattle.cedar_calls.proofs.FileLemmas.{saves_load_again_on}
use Rattle.cedar_calls.proofs.laws.saves_load_again.Goals as goal

pub returns : goal.returns
returns g c = saves_load_again_on c.args.saved.now
