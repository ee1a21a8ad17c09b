use Rattle.std.proofs.Common.{◌++◌, ◌∷◌, ◌∙◌, [], List, ℕ, ap}
use Rattle.device_lines.proofs.Writing.{writes_same}
use Rattle.cedar_cli.proofs.verbs.write_count.Goals as goal

pub returns : goal.returns
returns g c = writes_same (ap (λ (text : List ℕ). text ++ 10 ∷ []) (c.as_bytes.ensures.value ∙ c.format.ensures.text)) c.write_both.ensures
