use Rattle.std.proofs.Common.{◌≡◌, ◌++◌, List, ℕ, length}
use Rattle.word_lists.specs.Lines.{escape}
use Rattle.word_lists.proofs.word.are_plain.Given as goal

-- the bytes before the rest are written as they are
abbrev pub invariant-loop-rest : goal.invariant-loop-rest
invariant-loop-rest l = (done : List ℕ) × (l.fn.bytes ≡ done ++ l.rest) × (escape l.fn.text done ≡ done)

abbrev pub decreases-loop-rest : goal.decreases-loop-rest
decreases-loop-rest l = length l.rest
