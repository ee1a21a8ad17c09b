use Rattle.std.proofs.Common.{arith, rules}
use Rattle.cedar_table.specs.Table.Views.{cells, fields}
use Rattle.cedar_model.specs.Table.TableFields.{size_of}
use Rattle.cedar_file.proofs.TreeLemmas.Turns.{down_faulty, down_on, up_faulty, up_on}
use Rattle.cedar_file.proofs.check.tree.go_on.Goals as goal

pub returns-then-walk-ne0-clause-on : goal.returns-then-walk-ne0-clause-on
returns-then-walk-ne0-clause-on g c =
    down_on (size_of (fields c.args.table.now)) c.args.table.now.ordered (cells c.args.table.now) c.args.walk _ c.go_down.ensures.down

pub returns-then-walk-ne0-clause-faulty : goal.returns-then-walk-ne0-clause-faulty
returns-then-walk-ne0-clause-faulty g c =
    down_faulty (size_of (fields c.args.table.now)) c.args.table.now.ordered (cells c.args.table.now) c.args.walk _ (omega (arith, c.if-walk-ne0.true)) c.go_down.ensures.faulty

pub go_up-requires : goal.go_up-requires
go_up-requires g c = (search rules, (c.requires.at.inside, (c.requires.away c.if-walk-ne0.false, c.if-walk-ne0.false)))

pub returns-clause-on : goal.returns-clause-on
returns-clause-on g c =
    up_on (size_of (fields c.args.table.now)) c.args.table.now.ordered (cells c.args.table.now) c.args.walk _ c.go_up.ensures.up

pub returns-clause-faulty : goal.returns-clause-faulty
returns-clause-faulty g c =
    up_faulty (size_of (fields c.args.table.now)) c.args.table.now.ordered (cells c.args.table.now) c.args.walk _ c.if-walk-ne0.false c.go_up.ensures.faulty
