use Rattle.std.proofs.Common.{length}
use Rattle.byte_automata.proofs.pattern.+has_end.Given as goal

abbrev pub decreases-has_end : goal.decreases-has_end
decreases-has_end l = length l.pattern.now
