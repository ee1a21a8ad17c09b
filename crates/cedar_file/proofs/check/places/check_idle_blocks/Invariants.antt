use Rattle.std.proofs.Common.{◌≡◌, ℕ, ◌<◌, ◌≤◌, ◌+◌, ◌-◌}
use Rattle.cedar_slots.specs.Blocks.{blank_block, block_at}
use Rattle.cedar_file.proofs.check.places.check_idle_blocks.Given as goal

abbrev pub invariant-loop-block : goal.invariant-loop-block
invariant-loop-block g l = record {
  blank : (b : ℕ) → l.places.blocks.active ≤ b → b < l.block → block_at l.places.blocks.records.items b ≡ blank_block;
  cost : l.reads ≤ l.initial.reads + (l.block - l.places.blocks.active);
}
