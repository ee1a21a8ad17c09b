use Rattle.std.proofs.Common.{◌≡◌, ◌++◌, ◌+◌, ◌≤◌, List, ℕ, length}
use Rattle.cedarwood.specs.State.{State}
use Rattle.cedarwood.specs.Words.{entries_of}
use Rattle.word_lists.specs.Stored.{lines_in, lines_stored, pairs_stored}
use Rattle.word_lists.proofs.sorted.plain_pairs.Given as goal

-- the pairs of the lines that came are listed
abbrev pub invariant-loop-rest : goal.invariant-loop-rest
invariant-loop-rest g l =
    (came : List (List ℕ)) × (lines_in l.fn.list ≡ came ++ lines_in l.rest)
    × ((s : State) → lines_stored s 1 came ≡ pairs_stored s (entries_of l.pairs.items))
    × (l.number ≡ 1 + length came)
    × (length came + length l.rest ≤ length l.fn.list)

abbrev pub decreases-loop-rest : goal.decreases-loop-rest
decreases-loop-rest g l = length l.rest
