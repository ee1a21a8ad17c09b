use Rattle.cedar_walk.specs.Batch.{keys_of}
use Rattle.cedar_table.specs.Table.Views.{fields}
use Rattle.cedar_walk.proofs.WalkLemmas.Lanes.{Round}
use Rattle.cedar_walk.proofs.batch.pass_each.Given as goal

abbrev pub invariant-loop-lane : goal.invariant-loop-lane
invariant-loop-lane g l = Round (fields l.table) (keys_of l.keys) l.passed l.lane l.lanes
