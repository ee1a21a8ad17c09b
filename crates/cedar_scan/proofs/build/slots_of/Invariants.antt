use Rattle.std.proofs.Common.{ℕ, ◌^◌, ◌<◌, ◌≤◌, get_or}
use Rattle.cedar_scan.specs.declared.state.PlacedNode.{PlacedNode}
use Rattle.cedar_scan.proofs.build.slots_of.Given as goal

abbrev pub invariant-loop-node : goal.invariant-loop-node
invariant-loop-node l = (0 < l.slots) × (l.slots ≤ 2 ^ 32) × ((k : ℕ) (d : PlacedNode) → k < l.node-index → (get_or l.nodes k d).slot < l.slots)
