use Rattle.std.proofs.Common.{◌≡◌, ◌++◌, length}
use Rattle.word_lists.specs.Reading.{read_as}
use Rattle.word_lists.proofs.read.read_word.Given as goal

-- what was read, and what the rest represents
abbrev pub invariant-loop-rest : goal.invariant-loop-rest
invariant-loop-rest g l = l.word.items ++ read_as l.rest ≡ read_as l.fn.text

abbrev pub decreases-loop-rest : goal.decreases-loop-rest
decreases-loop-rest g l = length l.rest
