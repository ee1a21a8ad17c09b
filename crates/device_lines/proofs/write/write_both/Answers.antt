use Rattle.device_lines.proofs.Writing.{breaks_first, then_writes}
use Rattle.device_lines.proofs.write.write_both.Goals as goal

pub returns-in_err-write_whole : goal.returns-in_err-write_whole
returns-in_err-write_whole g c = breaks_first c.args.second.now c.from_residual.ensures.1 c.in_err-write_whole.ensures

pub returns : goal.returns
returns g c = then_writes c.in_ok-write_whole.ensures c.write_whole-2.ensures
