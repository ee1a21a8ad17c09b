use Rattle.std.proofs.Common.{◌≡◌, ◌≤◌, ◌+◌}
use Rattle.cedar_file.specs.PlaceChecks.{in_ring, passing_count}
use Rattle.cedar_slots.specs.Views.{blocks_of}
use Rattle.cedar_file.proofs.check.lists.count_ring.Given as goal

abbrev pub invariant-loop-block : goal.invariant-loop-block
invariant-loop-block g l = record {
  count : l.count ≡ passing_count (in_ring (blocks_of l.blocks) l.list) 0 l.block;
  cost : l.reads ≤ l.initial.reads + l.block;
}
