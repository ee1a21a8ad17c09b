use Rattle.std.proofs.Common.{◌≡◌, ◌++◌, Bor, List, ℕ, length, map}
use Rattle.word_lists.specs.Stored.{lines_in}
use Rattle.word_lists.specs.Texts.{body_of}
use Rattle.word_lists.proofs.parts.list_lines.Given as goal

-- the lines that came are listed
abbrev pub invariant-loop-rest : goal.invariant-loop-rest
invariant-loop-rest g l = map body_of (lines_in l.fn.text) ≡ map (λ (line : Bor (List ℕ)). line.now) l.lines.items ++ map body_of (lines_in l.rest)

abbrev pub decreases-loop-rest : goal.decreases-loop-rest
decreases-loop-rest g l = length l.rest
