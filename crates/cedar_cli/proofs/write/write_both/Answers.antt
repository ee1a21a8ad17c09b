use Rattle.cedar_cli.proofs.Writes.{written_part, written_whole}
use Rattle.cedar_cli.proofs.write.write_both.Goals as goal

pub returns : goal.returns
returns g c = written_whole c.in_ok-write_both.ensures

pub returns-in_err-write_both : goal.returns-in_err-write_both
returns-in_err-write_both g c = written_part c.from_residual.ensures.1 c.in_err-write_both.ensures
