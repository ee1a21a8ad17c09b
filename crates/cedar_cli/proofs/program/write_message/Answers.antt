use Rattle.cedar_cli.proofs.Reports.{told_further, told_or_failed}
use Rattle.cedar_cli.proofs.program.write_message.Goals as goal

pub returns-in-Ok : goal.returns-in-Ok
returns-in-Ok g c =
    told_further g.E.Write.contents c.args.errors.now c.write_all.new.self c.write_all-in-Ok.new.self c.args.first.now c.args.second.now c.in-Ok.ensures.bytes
    (told_or_failed g.E.Write.contents c.write_all.new.self c.write_all-in-Ok.new.self c.args.second.now c.write_all-in-Ok.result c.write_all-in-Ok.ensures.bytes c.write_all-in-Ok.ensures.err)
