use Rattle.cedar_cli.proofs.Writes.{written_part, written_whole}
use Rattle.cedar_cli.proofs.write.write_line.Goals as goal

pub returns : goal.returns
returns g c = written_whole c.in_ok-write_line.ensures

pub returns-in_err-write_line : goal.returns-in_err-write_line
returns-in_err-write_line g c = written_part c.from_residual.ensures.1 c.in_err-write_line.ensures
