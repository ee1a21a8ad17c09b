use Rattle.cedar_cli.proofs.Begun.{asks_save}
use Rattle.cedar_cli.proofs.program.save.Goals as goal

pub returns-in-Err : goal.returns-in-Err
returns-in-Err g c = λ unread read written. asks_save c.args.options c.in-Some.path c.in-Some.is
