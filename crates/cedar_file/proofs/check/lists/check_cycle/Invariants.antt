use Rattle.std.proofs.Common.{◌≤◌, ◌+◌, ◌*◌}
use Rattle.cedar_slots.specs.Views.{blocks_of}
use Rattle.cedar_file.proofs.ChecksLemmas.Cycle.{Walk}
use Rattle.cedar_file.proofs.ChecksLemmas.ListsRead.{block_circuit}
use Rattle.cedar_file.proofs.check.lists.check_cycle.Given as goal

abbrev pub invariant-loop-turn : goal.invariant-loop-turn
invariant-loop-turn g l = record {
  walk : Walk (block_circuit (blocks_of l.blocks) l.list) l.first l.turn l.block;
  cost : l.reads ≤ l.initial.reads + 3 * l.turn;
}
