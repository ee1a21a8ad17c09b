use Rattle.std.proofs.Common.{◌≡◌, ◌++◌, Some, drop, map}
use Rattle.word_lists.specs.Costs.{costs_of_lines}
use Rattle.word_lists.proofs.costs.costs_of.Given as goal

-- the costs so far, and those that the lines to come say, are those of all lines
abbrev pub invariant-loop-index : goal.invariant-loop-index
invariant-loop-index g l = map Some l.costs.items ++ costs_of_lines (drop l.index l.lines) ≡ costs_of_lines l.fn.lines
