use Rattle.cedar_table.specs.Table.Views.{fields}
use Rattle.cedar_walk.proofs.WalkLemmas.Lanes.{lane_goes_on, lane_stays}
use Rattle.cedar_walk.proofs.batch.pass.Goals as goal

pub returns-then-passed-key : goal.returns-then-passed-key
returns-then-passed-key g c =
    let i = c.requires in
    lane_goes_on (fields c.args.table.now) c.args.key.now c.args.passed i.1.0 c.follow.result c.if-passed-key.true i.1.2 (c.follow.ensures.answer i.1.0 i.1.1)

pub returns : goal.returns
returns g c = lane_stays (fields c.args.table.now) c.args.key.now c.args.passed c.args.node c.if-passed-key.false c.requires
