use Rattle.std.proofs.Common.{◌≡◌, ◌++◌, map}
use Rattle.cedar_replies.proofs.reply.collect.Given as goal

-- what was collected and what is left are the entries of the range
abbrev pub invariant-loop-entry : goal.invariant-loop-entry
invariant-loop-entry g l = map (λ e. (e.0.items, e.1)) l.found.items ++ l.entry-iterator ≡ l.fn.entries
