use Rattle.std.proofs.Common.{arith}
use Rattle.whole_files.proofs.names.kept_front.Goals as goal

-- a name that is cut is longer than that
pub returns-clause-whole : goal.returns-clause-whole
returns-clause-whole c = λ short. absurd (omega (arith, short))
