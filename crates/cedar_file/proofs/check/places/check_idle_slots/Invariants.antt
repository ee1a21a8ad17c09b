use Rattle.std.proofs.Common.{◌≡◌, ℕ, ◌<◌, ◌≤◌, ◌+◌, ◌-◌, ◌*◌}
use Rattle.cedar_slots.specs.Slots.{blank_info, blank_node, info_at, node_record_at}
use Rattle.cedar_file.proofs.check.places.check_idle_slots.Given as goal

abbrev pub invariant-loop-slot : goal.invariant-loop-slot
invariant-loop-slot g l = record {
  blank : (s : ℕ) → 256 * l.places.blocks.active ≤ s → s < l.slot → (node_record_at l.places.slots.nodes.items s ≡ blank_node) × (info_at l.places.slots.infos.items s ≡ blank_info);
  cost : l.reads ≤ l.initial.reads + 2 * (l.slot - 256 * l.places.blocks.active);
}
