use Rattle.std.proofs.Common.{arith}
use Rattle.std.proofs.lemmas.Grind.{common_steps}
use Rattle.cedar_words.proofs.classes.character_len.Goals as goal

pub returns : goal.returns
returns c = grind (arith, common_steps)
