use Rattle.std.proofs.Common.{◌≡◌, ◌<◌, ◌≤◌, ◌⊎◌, ℕ, Contains, get_or}
use Rattle.cedar_scan.specs.declared.state.PlacedNode.{PlacedNode}
use Rattle.cedar_scan.proofs.owned.lowest_depth.Given as goal

-- no node that was passed lies lower, and one lies so low
abbrev pub invariant-loop-node : goal.invariant-loop-node
invariant-loop-node l =
    ((k : ℕ) (d : PlacedNode) → k < l.node-index → (get_or l.nodes k d).depth ≤ l.most)
    × ((l.most ≡ 0) ⊎ ((n : PlacedNode) × Contains l.nodes n × (n.depth ≡ l.most)))
