use Rattle.std.proofs.Common.{◌≡◌, ◌-◌, length}
use Rattle.cedar_words.specs.Lattice.{edges_at, IsStop}
use Rattle.cedar_words.proofs.edges.next_edge.Given as goal

-- no edge is passed
abbrev pub invariant-loop-stop : goal.invariant-loop-stop
invariant-loop-stop g l =
    (edges_at (g.T.Fronts.fronts_of l.fn.trie) (g.M.CostModel.key_cost l.model) (g.M.CostModel.unknown_at l.model l.text) l.text (l.stop, l.walk.rest)
    ≡ edges_at (g.T.Fronts.fronts_of l.fn.trie) (g.M.CostModel.key_cost l.model) (g.M.CostModel.unknown_at l.model l.text) l.text (l.fn.stop, l.fn.walk.rest))
    × IsStop l.text (l.stop, l.walk.rest)

abbrev pub decreases-loop-stop : goal.decreases-loop-stop
decreases-loop-stop g l = length l.text - l.stop.place
