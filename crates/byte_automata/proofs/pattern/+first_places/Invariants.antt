use Rattle.std.proofs.Common.{length}
use Rattle.byte_automata.proofs.pattern.+first_places.Given as goal

abbrev pub decreases-first_places : goal.decreases-first_places
decreases-first_places l = length l.pattern.now
