use Rattle.std.proofs.Common.{◌≡◌, ◌+◌, ℕ, List, length}
use Rattle.word_lists.specs.Stored.{Adds, TakesLines, lines_stored, lines_told}
use Rattle.word_lists.proofs.lines.store_lines.Given as goal

-- the lines that came are stored and reported
abbrev pub invariant-loop-number : goal.invariant-loop-number
invariant-loop-number g l =
    (came : List (List ℕ)) × TakesLines (g.R.Read.remaining l.fn.reader) (g.R.Read.remaining l.reader) came
    × (l.trie.state ≡ lines_stored l.fn.trie.state 1 came)
    × Adds (g.F.LineFaults.told l.fn.faults) (g.F.LineFaults.told l.faults) (lines_told l.fn.trie.state 1 came)
    × (l.number ≡ 1 + length came)
