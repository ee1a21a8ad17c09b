use Rattle.std.proofs.Common.{arith}
use Rattle.std.proofs.lemmas.Grind.{common_steps}
use Rattle.cedar_words.proofs.cuts.over_run.Goals as goal

pub over-requires-clause-some : goal.over-requires-clause-some
over-requires-clause-some c = grind (arith, common_steps)

pub over-requires-clause-within : goal.over-requires-clause-within
over-requires-clause-within c = grind (arith, common_steps)
