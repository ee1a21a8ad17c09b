use Rattle.std.proofs.Common.{◌≡◌, length}
use Rattle.cedar_words.specs.Steps.{AreWithin, best_from, best_of}
use Rattle.cedar_words.proofs.costs.cheapest_of.Given as goal

-- the best so far and those that are still to come make the best of all
abbrev pub invariant-loop-front : goal.invariant-loop-front
invariant-loop-front g l =
    (best_from l.later l.best (g.F.NextFront.left l.walk) ≡ best_of l.unknown l.later (g.F.NextFront.left l.fn.walk))
    × AreWithin (length l.later) (g.F.NextFront.left l.walk)

abbrev pub decreases-loop-front : goal.decreases-loop-front
decreases-loop-front g l = length (g.F.NextFront.left l.walk)
