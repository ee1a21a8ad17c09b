use Rattle.std.proofs.Common.{arith}
use Rattle.std.proofs.lemmas.Grind.{common_steps}
use Rattle.cedar_words.proofs.ranked.put_key.Goals as goal

pub put_token-requires-clause-some : goal.put_token-requires-clause-some
put_token-requires-clause-some g c = grind (arith, common_steps)

pub put_token-requires-clause-within : goal.put_token-requires-clause-within
put_token-requires-clause-within g c = grind (arith, common_steps)
