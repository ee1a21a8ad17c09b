use Rattle.std.proofs.Common.{arith}
use Rattle.std.proofs.lemmas.Grind.{common_steps}
use Rattle.cedar_match.proofs.cursor.make_room.Goals as goal

pub returns-clause-key : goal.returns-clause-key
returns-clause-key g c = grind (arith, common_steps)

pub returns-clause-states : goal.returns-clause-states
returns-clause-states g c = grind (arith, common_steps)
