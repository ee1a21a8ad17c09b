use Rattle.std.proofs.Common.{◌≡◌, ◌++◌}
use Rattle.cedar_replies.proofs.texts.collect_ends.Given as goal

-- what was collected and what is left are the keys
abbrev pub invariant-loop-spot : goal.invariant-loop-spot
invariant-loop-spot g l = l.found.items ++ l.spot-iterator.rest ≡ l.fn.spots.rest
