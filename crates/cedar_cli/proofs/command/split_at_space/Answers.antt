use Rattle.std.proofs.Common.{sym}
use Rattle.cedar_cli.specs.Command.{is_space}
use Rattle.cedar_cli.proofs.Text.{before_at, after_at, before_none, after_none}
use Rattle.cedar_cli.proofs.command.split_at_space.Goals as goal

pub returns-in-Some-clause-before : goal.returns-in-Some-clause-before
returns-in-Some-clause-before c = before_at is_space c.args.text.now c.in-Some.at (sym c.in-Some.ensures)

pub returns-in-Some-clause-after : goal.returns-in-Some-clause-after
returns-in-Some-clause-after c = after_at is_space c.args.text.now c.in-Some.at (sym c.in-Some.ensures)

pub returns-in-None-clause-before : goal.returns-in-None-clause-before
returns-in-None-clause-before c = before_none is_space c.args.text.now (sym c.in-None.ensures)

pub returns-in-None-clause-after : goal.returns-in-None-clause-after
returns-in-None-clause-after c = after_none is_space c.args.text.now (sym c.in-None.ensures)
