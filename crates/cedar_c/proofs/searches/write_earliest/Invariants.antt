use Rattle.std.proofs.Common.{◌≡◌, ◌-◌, length}
use Rattle.cedar_scan.specs.Resumed.{earliest_behind}
use Rattle.cedar_c.proofs.ScannerLemmas.{WritesApart}
use Rattle.cedar_c.proofs.searches.write_earliest.Given as goal

-- what is written, and then what is found from the position on, is all
abbrev pub invariant-loop-count : goal.invariant-loop-count
invariant-loop-count g l = WritesApart (earliest_behind l.fn.scanner) l.text l.fn.next l.next l.count l.found l.walk.rest × (length l.found ≡ length l.fn.found)

abbrev pub decreases-loop-count : goal.decreases-loop-count
decreases-loop-count g l = length l.found - l.count
