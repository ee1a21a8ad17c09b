use Rattle.std.proofs.Common.{◌≡◌, ◌≤◌, ◌+◌, ◌++◌, length, map, take}
use Rattle.cedar_c.specs.Matches.{Fit}
use Rattle.cedar_c.specs.Scans.{found_spot}
use Rattle.cedar_c.proofs.scans.tell.Given as goal

-- what is written, and then what is left, is all
abbrev pub invariant-loop-front : goal.invariant-loop-front
invariant-loop-front g l =
    (take l.at l.found ++ map (found_spot l.place) (g.F.Finds.left l.walk) ≡ take l.fn.count l.fn.found ++ map (found_spot l.place) (g.F.Finds.left l.fn.walk))
    × (take l.fn.count l.found ≡ take l.fn.count l.fn.found)
    × (l.at + length (g.F.Finds.left l.walk) ≡ l.fn.count + length (g.F.Finds.left l.fn.walk))
    × (l.at ≤ length l.found) × (l.fn.count ≤ l.at) × (length l.found ≡ length l.fn.found) × (l.place ≡ l.fn.place) × Fit 1 (g.F.Finds.left l.walk)

abbrev pub decreases-loop-front : goal.decreases-loop-front
decreases-loop-front g l = length (g.F.Finds.left l.walk)
