use Rattle.std.proofs.Common.{ℕ, ◌<◌, ◌≤◌, ◌+◌}
use Rattle.cedar_file.specs.PlaceChecks.{CountsInRange}
use Rattle.cedar_slots.specs.Views.{blocks_of}
use Rattle.cedar_file.proofs.check.lists.check_ranges.Given as goal

abbrev pub invariant-loop-block : goal.invariant-loop-block
invariant-loop-block g l = record {
  ranges : (b : ℕ) → b < l.block → CountsInRange (blocks_of l.blocks) b;
  cost : l.reads ≤ l.initial.reads + l.block;
}
