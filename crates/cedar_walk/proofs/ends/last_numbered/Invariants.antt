use Rattle.std.proofs.Common.{[], length}
use Rattle.cedar_table.specs.Table.Views.{fields}
use Rattle.cedar_walk.specs.Ends.{HasPassed}
use Rattle.cedar_walk.specs.Visits.{left_at}
use Rattle.cedar_walk.proofs.ends.last_numbered.Given as goal

abbrev pub invariant-loop-next : goal.invariant-loop-next
invariant-loop-next g l = HasPassed (fields l.table) l.place

abbrev pub decreases-loop-next : goal.decreases-loop-next
decreases-loop-next g l = length (left_at (fields l.table) [] l.place.depth l.place.slot)
