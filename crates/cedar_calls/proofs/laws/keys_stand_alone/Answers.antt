use Rattle.cedar_calls.proofs.KeyLemmas.{keys_go}
use Rattle.cedar_calls.proofs.laws.keys_stand_alone.Goals as goal

pub returns : goal.returns
returns c = λ s changes key. keys_go s changes key
