use Rattle.std.proofs.Common.{◌≡◌, ◌≤◌, ◌-◌, drop}
use Rattle.cedar_c.proofs.pages.pass.Given as goal

-- what is left once the rest is passed is what is left once all are
abbrev pub invariant-loop-passed : goal.invariant-loop-passed
invariant-loop-passed g l =
    (drop (l.count - l.passed) (g.F.Finds.left l.walk) ≡ drop l.count (g.F.Finds.left l.fn.walk)) × (l.passed ≤ l.count)

abbrev pub decreases-loop-passed : goal.decreases-loop-passed
decreases-loop-passed g l = l.count - l.passed
