-- The children of a plain tree, as the siblings that they are.
use Rattle.std.specs.Prelude.{ℕ, ◌+◌, ◌≤◌, Bool, nat_lt, if◌then◌else◌, List, [], ◌∷◌}
use Rattle.std.specs.List.{position_or_len}
use Rattle.std.proofs.Common.{arith}
use Rattle.cedar_tree.specs.Tree.{Forest, none, child, Tree}
use denote.Param.Weighed.{most}

-- the children that a node owns as siblings
abbrev pub forest_of : List (ℕ × Tree) → Forest
forest_of [] = none
forest_of (c ∷ cs) = child c.0 c.1.number c.1.children (forest_of cs)

-- how many nodes some children have, with all below them
abbrev pub node_count : Forest → ℕ
node_count none = 0
node_count (child l n below rest) = node_count below + 1 + node_count rest

-- no child has as many nodes below it as all siblings have together
pub most_le-node_count : (cs : List (ℕ × Tree)) → most (λ c. node_count c.1.children + 1) cs ≤ node_count (forest_of cs)
most_le-node_count [] = omega arith
most_le-node_count (c ∷ cs) = omega (arith, most_le-node_count cs)

-- where a new label goes among children: before the first greater one if ordered, and else first
abbrev pub place_of : Bool → List (ℕ × Tree) → ℕ → ℕ
place_of ordered cs label = if ordered then position_or_len (λ c. nat_lt label c.0) cs else 0
