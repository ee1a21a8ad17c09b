use Rattle.cedar_cli.proofs.script.position_of_newline.Goals as goal

pub returns-clause-first : goal.returns-clause-first
returns-clause-first c = c.position_of.ensures.first

pub returns-clause-within : goal.returns-clause-within
returns-clause-within c = c.position_of.ensures.within
