use Rattle.std.proofs.Common.{[], length}
use Rattle.cedar_walk.specs.Visits.{left_at}
use Rattle.cedar_scan.proofs.NodesLemmas.{AreListed}
use Rattle.cedar_scan.proofs.nodes.list_nodes.Given as goal

-- the nodes that the walk has been at are listed
abbrev pub invariant-loop-next : goal.invariant-loop-next
invariant-loop-next g l = AreListed (g.T.Walked.shown l.trie) l.nodes.items l.way.items l.depth l.at

abbrev pub decreases-loop-next : goal.decreases-loop-next
decreases-loop-next g l = length (left_at (g.T.Walked.shown l.trie) [] l.depth l.at)
