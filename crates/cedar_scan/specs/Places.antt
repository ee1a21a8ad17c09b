-- Slots that are chosen for the nodes of a dictionary.
use Rattle.std.specs.Prelude.{◌≡◌, ℕ, ◌^◌, ◌<◌, List, bit_xor, slice_index_or}
use Rattle.std.specs.List.{All}
use Rattle.cedar_tree.specs.Tree.{Tree}
use Rattle.cedar_scan.specs.Automata.{AreByDepth, AreNodes, IsPlacing}
use Rattle.cedar_scan.specs.declared.state.PlacedNode.{PlacedNode}

-- the slot that was chosen for a node, by its own slot
abbrev pub chosen_slot : List ℕ → ℕ → ℕ
chosen_slot places slot = slice_index_or places slot 0

-- the slots of the paths that lead to nodes, as they were chosen
abbrev pub placed_by : List ℕ → (List ℕ → ℕ) → List ℕ → ℕ
placed_by places slot_of path = chosen_slot places (slot_of path)

-- a node with the slots that were chosen for it and for the one above it
abbrev pub placed_node : List ℕ → PlacedNode → PlacedNode
placed_node places n = record n { slot = chosen_slot places n.slot; parent = chosen_slot places n.parent }

-- a node has a chosen slot: from the base of the node above it, and by that slot its own one is known again
pub record IsPutAnew (places bases owners : List ℕ) (n : PlacedNode) : Type 0 where
  pub below : chosen_slot places n.slot ≡ bit_xor (chosen_slot bases n.parent) n.label
  pub owner : chosen_slot owners (chosen_slot places n.slot) ≡ n.slot
  pub small : chosen_slot places n.slot < 2 ^ 30

-- each node has a chosen slot, and the root keeps its own
pub record ArePutAnew (places bases owners : List ℕ) (nodes : List PlacedNode) : Type 0 where
  pub root : chosen_slot places 0 ≡ 0
  pub owner : chosen_slot owners 0 ≡ 0
  pub each : All (IsPutAnew places bases owners) nodes

-- the nodes of a tree in chosen slots, the shorter paths first
pub record ArePlacedAnew (t : Tree) (slot_of : List ℕ → ℕ) (nodes : List PlacedNode) : Type 0 where
  pub placing : IsPlacing t slot_of
  pub listed : AreNodes t slot_of nodes
  pub sorted : AreByDepth nodes
