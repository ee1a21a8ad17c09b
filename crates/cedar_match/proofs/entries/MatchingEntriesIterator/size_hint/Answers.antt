use Rattle.std.proofs.Common.{arith}
use Rattle.std.proofs.lemmas.Grind.{common_steps}
use Rattle.cedar_match.proofs.entries.MatchingEntriesIterator.size_hint.Goals as goal

pub returns-clause-lower : goal.returns-clause-lower
returns-clause-lower g c = grind (arith, common_steps)

pub returns-clause-upper : goal.returns-clause-upper
returns-clause-upper g c = grind (arith, common_steps)
