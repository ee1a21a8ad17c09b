use Rattle.std.proofs.Common.{◌≡◌, length}
use Rattle.cedar_c.specs.BestCuts.{kind_in}
use Rattle.cedar_c.proofs.models.kind_in.Given as goal

-- no range so far has the character
abbrev pub invariant-loop-range : goal.invariant-loop-range
invariant-loop-range l = kind_in l.rest l.code ≡ kind_in l.fn.ranges l.code

abbrev pub decreases-loop-range : goal.decreases-loop-range
decreases-loop-range l = length l.rest
