use Rattle.std.proofs.Common.{◌≡◌, ◌≤◌, ◌+◌, ◌*◌}
use Rattle.cedar_file.specs.PlaceChecks.{free_here, passing_count}
use Rattle.cedar_slots.specs.Views.{slots_of}
use Rattle.cedar_file.proofs.ChecksLemmas.RingRead.{ClearedTo}
use Rattle.cedar_file.proofs.check.rings.count_free.Given as goal

abbrev pub invariant-loop-place : goal.invariant-loop-place
invariant-loop-place g l = record {
  count : l.count ≡ passing_count (free_here l.slots.nodes.items l.block) (256 * l.block) l.place;
  cleared : ClearedTo (slots_of l.slots) l.block l.place;
  cost : l.reads ≤ l.initial.reads + 2 * l.place;
}
