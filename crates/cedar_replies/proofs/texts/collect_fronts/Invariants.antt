use Rattle.std.proofs.Common.{◌≡◌, ◌++◌, length}
use Rattle.cedar_replies.proofs.texts.collect_fronts.Given as goal

-- what was collected and what is left are the keys that the text begins with
abbrev pub invariant-loop-front : goal.invariant-loop-front
invariant-loop-front g l = l.found.items ++ g.F.NextFront.left l.walk ≡ g.F.NextFront.left l.fn.walk

abbrev pub decreases-loop-front : goal.decreases-loop-front
decreases-loop-front g l = length (g.F.NextFront.left l.walk)
