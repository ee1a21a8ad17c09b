use Rattle.std.proofs.Common.{◌≡◌, ◌+◌, ◌++◌, drop, length, take}
use Rattle.cedar_c.specs.Matches.{Fit, filled_matches, all_longer}
use Rattle.cedar_c.proofs.walks.fill.Given as goal

-- what is written so far, and then what is left, is all
abbrev pub invariant-loop-found : goal.invariant-loop-found
invariant-loop-found g l =
    (take l.count l.matches ++ filled_matches (drop l.count l.matches) (all_longer l.more (g.F.Finds.left l.walk)) ≡ filled_matches l.fn.matches (all_longer l.more (g.F.Finds.left l.fn.walk)))
    × (l.count + length (g.F.Finds.left l.walk) ≡ length (g.F.Finds.left l.fn.walk))
    × Fit l.more (g.F.Finds.left l.walk)

abbrev pub decreases-loop-found : goal.decreases-loop-found
decreases-loop-found g l = length (g.F.Finds.left l.walk)
