use Rattle.cedar_calls.proofs.PlainRunLemmas.{run_goes}
use Rattle.cedar_calls.proofs.laws.trees_decide.Goals as goal

pub returns : goal.returns
returns g c = λ b layout slots before after. run_goes b layout slots before c.args.calls.now c.args.answers.now after
