use Rattle.std.proofs.Common.{◌≡◌, ◌++◌}
use Rattle.cedar_replies.proofs.texts.collect_tokens.Given as goal

-- what was collected and what is left are the tokens
abbrev pub invariant-loop-token : goal.invariant-loop-token
invariant-loop-token g l = l.found.items ++ l.token-iterator ≡ l.fn.segments
