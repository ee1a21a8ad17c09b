use Rattle.std.proofs.Common.{◌≡◌, length}
use Rattle.cedar_words.specs.Spots.{keywords_of}
use Rattle.cedar_words.proofs.keywords.next_keyword.Given as goal

-- no keyword is passed
abbrev pub invariant-loop-start : goal.invariant-loop-start
invariant-loop-start g l = keywords_of l.tokens ≡ keywords_of l.fn.tokens

abbrev pub decreases-loop-start : goal.decreases-loop-start
decreases-loop-start g l = length l.tokens
