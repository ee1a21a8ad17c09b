use Rattle.std.proofs.Common.{◌≡◌, ◌++◌}
use Rattle.cedar_replies.proofs.texts.collect_matches.Given as goal

-- what was collected and what is left are the matches
abbrev pub invariant-loop-spot : goal.invariant-loop-spot
invariant-loop-spot g l = l.found.items ++ l.spot-iterator ≡ l.fn.spots
