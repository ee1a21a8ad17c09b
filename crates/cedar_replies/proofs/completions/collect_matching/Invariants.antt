use Rattle.std.proofs.Common.{◌≡◌, ◌++◌, map}
use Rattle.cedar_replies.proofs.completions.collect_matching.Given as goal

-- what was collected and what is left are the entries of the walk
abbrev pub invariant-loop-found : goal.invariant-loop-found
invariant-loop-found g l = map (λ e. (e.0.items, e.1)) l.found.items ++ l.walk.left ≡ l.fn.walk.left

abbrev pub decreases-loop-found : goal.decreases-loop-found
decreases-loop-found g l = l.walk.nodes
