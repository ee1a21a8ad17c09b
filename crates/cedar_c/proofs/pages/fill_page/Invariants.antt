use Rattle.std.proofs.Common.{◌≡◌, ◌≤◌, ◌-◌, ◌+◌, ◌++◌, drop, length, take}
use Rattle.cedar_c.specs.Matches.{Fit, filled_matches, all_longer}
use Rattle.cedar_c.proofs.pages.fill_page.Given as goal

-- what is written so far, and then what is left, is all
abbrev pub invariant-loop-count : goal.invariant-loop-count
invariant-loop-count g l =
    (take l.count l.matches ++ filled_matches (drop l.count l.matches) (all_longer l.more (g.F.Finds.left l.walk)) ≡ filled_matches l.fn.matches (all_longer l.more (g.F.Finds.left l.fn.walk)))
    × (l.count + length (take (length l.matches - l.count) (g.F.Finds.left l.walk)) ≡ length (take (length l.fn.matches) (g.F.Finds.left l.fn.walk)))
    × (length l.matches ≡ length l.fn.matches) × (l.count ≤ length l.matches) × Fit l.more (g.F.Finds.left l.walk)

abbrev pub decreases-loop-count : goal.decreases-loop-count
decreases-loop-count g l = length l.matches - l.count
