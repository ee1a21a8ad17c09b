use Rattle.std.proofs.Common.{◌≡◌}
use Rattle.cedar_slots.proofs.ListsLemmas.FreeCounts.{sum_below}
use Rattle.cedar_slots.proofs.places.Places.held_slots.Given as goal

abbrev pub invariant-loop-block : goal.invariant-loop-block
invariant-loop-block g l = l.free ≡ sum_below l.self.slots.nodes.items l.block
