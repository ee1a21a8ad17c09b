use Rattle.cedar_calls.proofs.AgreeLemmas.{runs_agree_on}
use Rattle.cedar_calls.proofs.laws.runs_agree.Goals as goal

pub returns : goal.returns
returns g c = λ b layout other slots most before after start end.
    runs_agree_on b layout other slots most before after start end c.args.calls.now c.args.others.now c.args.answers.now c.args.replies.now
