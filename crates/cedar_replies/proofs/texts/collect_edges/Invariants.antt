use Rattle.std.proofs.Common.{◌≡◌, ◌++◌}
use Rattle.cedar_replies.proofs.texts.collect_edges.Given as goal

-- what was collected and what is left are the tokens of the lattice
abbrev pub invariant-loop-edge : goal.invariant-loop-edge
invariant-loop-edge g l = l.found.items ++ l.edge-iterator ≡ l.fn.edges
