use Rattle.std.proofs.Common.{◌≡◌, ◌++◌}
use Rattle.cedar_replies.proofs.texts.collect_keywords.Given as goal

-- what was collected and what is left are the keywords
abbrev pub invariant-loop-word : goal.invariant-loop-word
invariant-loop-word g l = l.found.items ++ l.word-iterator ≡ l.fn.words
