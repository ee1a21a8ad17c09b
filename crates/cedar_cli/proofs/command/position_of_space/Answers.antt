use Rattle.cedar_cli.proofs.command.position_of_space.Goals as goal

pub returns : goal.returns
returns c = c.position_of.ensures.first
