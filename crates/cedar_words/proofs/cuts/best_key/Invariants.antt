use Rattle.std.proofs.Common.{◌≡◌, length}
use Rattle.cedar_words.specs.ModelSteps.{best_priced}
use Rattle.cedar_words.specs.Steps.{AreWithin}
use Rattle.cedar_words.proofs.cuts.best_key.Given as goal

-- the best so far and those that are still to come make the best of all
abbrev pub invariant-loop-front : goal.invariant-loop-front
invariant-loop-front g l =
    (best_priced (g.M.CostModel.key_cost l.model) l.later l.best (g.F.NextFront.left l.walk) ≡ best_priced (g.M.CostModel.key_cost l.model) l.later l.fn.first (g.F.NextFront.left l.fn.walk))
    × AreWithin (length l.later) (g.F.NextFront.left l.walk)

abbrev pub decreases-loop-front : goal.decreases-loop-front
decreases-loop-front g l = length (g.F.NextFront.left l.walk)
