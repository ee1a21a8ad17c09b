use Rattle.std.proofs.Common.{◌≡◌, ℕ, ◌+◌, ◌<◌, ◌≤◌, ◌⊎◌, length}
use Rattle.cedar_slots.specs.Slots.{node_record_at, SlotLink}
use Rattle.cedar_slots.proofs.slots.Slots.free_block.Given as goal

abbrev pub invariant-loop-slot : goal.invariant-loop-slot
invariant-loop-slot g l = record {
  len : length l.self.nodes.items ≡ length l.initial.self.nodes.items;
  used : l.self.nodes.used ≡ l.initial.self.nodes.used;
  infos_used : l.self.infos.used ≡ l.initial.self.infos.used;
  infos : l.self.infos.items ≡ l.initial.self.infos.items;
  steps : (s : ℕ) → l.first ≤ s → s < l.slot → SlotLink l.self.nodes.items s (s + 1);
  outside : (s : ℕ) → (s < l.first) ⊎ (l.first + 256 ≤ s) → node_record_at l.self.nodes.items s ≡ node_record_at l.initial.self.nodes.items s;
}
