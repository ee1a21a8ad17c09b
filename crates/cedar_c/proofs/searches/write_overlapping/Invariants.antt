use Rattle.std.proofs.Common.{◌≡◌, length}
use Rattle.cedar_c.proofs.ScannerLemmas.{WritesEnds}
use Rattle.cedar_c.proofs.searches.write_overlapping.Given as goal

-- the first elements are the keys up to the position, those behind them end at the next byte, and the others are left
abbrev pub invariant-loop-next : goal.invariant-loop-next
invariant-loop-next g l = WritesEnds l.fn.scanner l.text l.fn.next l.next l.whole l.count l.found l.walk.rest × (length l.found ≡ length l.fn.found)

abbrev pub decreases-loop-next : goal.decreases-loop-next
decreases-loop-next g l = length l.walk.rest
