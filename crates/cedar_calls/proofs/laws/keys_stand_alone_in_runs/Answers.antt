use Rattle.cedar_calls.proofs.KeyRunLemmas.{key_run}
use Rattle.cedar_calls.proofs.laws.keys_stand_alone_in_runs.Goals as goal

pub returns : goal.returns
returns g c = λ layout slots before after key. key_run key layout slots before after c.args.calls.now c.args.answers.now
