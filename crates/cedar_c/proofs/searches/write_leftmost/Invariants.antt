use Rattle.std.proofs.Common.{◌≡◌, ◌-◌, length}
use Rattle.cedar_scan.specs.Resumed.{leftmost_from}
use Rattle.cedar_c.proofs.ScannerLemmas.{WritesApart}
use Rattle.cedar_c.proofs.searches.write_leftmost.Given as goal

-- what is written, and then what is found from the position on, is all
abbrev pub invariant-loop-count : goal.invariant-loop-count
invariant-loop-count g l = WritesApart (leftmost_from l.fn.scanner.kind l.fn.scanner.tree) l.text l.fn.next l.next l.count l.found l.walk.rest × (length l.found ≡ length l.fn.found)

abbrev pub decreases-loop-count : goal.decreases-loop-count
decreases-loop-count g l = length l.found - l.count
