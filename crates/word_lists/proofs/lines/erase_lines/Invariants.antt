use Rattle.std.proofs.Common.{◌≡◌, ◌≤◌, ℕ, List, length}
use Rattle.word_lists.specs.Stored.{TakesLines, lines_absent, lines_erased}
use Rattle.word_lists.proofs.lines.erase_lines.Given as goal

-- the words of the lines that came are taken out
abbrev pub invariant-loop-turn : goal.invariant-loop-turn
invariant-loop-turn g l =
    (came : List (List ℕ)) × TakesLines (g.R.Read.remaining l.fn.reader) (g.R.Read.remaining l.reader) came
    × (l.trie.state ≡ lines_erased l.fn.trie.state came)
    × (l.absent ≡ lines_absent l.fn.trie.state came)
    × (l.absent ≤ l.turn)
    × (l.turn ≡ length came)
