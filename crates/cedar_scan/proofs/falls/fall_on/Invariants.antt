use Rattle.std.proofs.Common.{length}
use Rattle.cedar_scan.specs.Places.{placed_by}
use Rattle.cedar_scan.specs.Automata.{path_in}
use Rattle.cedar_scan.proofs.FallLemmas.{IsFalling}
use Rattle.cedar_scan.proofs.falls.fall_on.Given as goal

-- what was given so far
abbrev pub invariant-loop-slot : goal.invariant-loop-slot
invariant-loop-slot g l = IsFalling (g.T.Placed.tree l.trie) (placed_by l.places (g.T.Placed.slot_of l.trie)) l.node l.initial.popped.items l.slot l.popped.items

abbrev pub decreases-loop-slot : goal.decreases-loop-slot
decreases-loop-slot g l = length (path_in (g.T.Placed.tree l.trie) l.states l.slot)
