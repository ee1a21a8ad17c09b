use Rattle.std.proofs.Common.{length}
use Rattle.byte_automata.proofs.pattern.+places_after.Given as goal

abbrev pub decreases-places_after : goal.decreases-places_after
decreases-places_after l = length l.pattern.now
