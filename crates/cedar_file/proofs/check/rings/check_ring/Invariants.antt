use Rattle.std.proofs.Common.{◌≤◌, ◌+◌, ◌*◌}
use Rattle.cedar_file.proofs.ChecksLemmas.Cycle.{Walk}
use Rattle.cedar_file.proofs.ChecksLemmas.RingRead.{slot_circuit}
use Rattle.cedar_file.proofs.check.rings.check_ring.Given as goal

abbrev pub invariant-loop-turn : goal.invariant-loop-turn
invariant-loop-turn g l = record {
  walk : Walk (slot_circuit l.slots.nodes.items l.block) l.head l.turn l.slot;
  cost : l.reads ≤ l.initial.reads + 2 * l.turn;
}
