use Rattle.std.proofs.Common.{◌≡◌, ◌++◌, length, map}
use Rattle.cedar_replies.proofs.buffers.collect_into.Given as goal

-- what was collected and what is left are the entries of the range
abbrev pub invariant-loop-found : goal.invariant-loop-found
invariant-loop-found g l = map (λ e. (e.0.items, e.1)) l.found.items ++ l.entries ≡ l.fn.entries

abbrev pub decreases-loop-found : goal.decreases-loop-found
decreases-loop-found g l = length l.entries
