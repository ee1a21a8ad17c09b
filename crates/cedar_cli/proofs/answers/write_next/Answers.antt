use Rattle.cedar_cli.specs.Script.{token_text}
use Rattle.device_lines.proofs.Writing.{breaks_first, then_writes}
use Rattle.cedar_cli.proofs.answers.write_next.Goals as goal

pub returns-in_err-write_whole : goal.returns-in_err-write_whole
returns-in_err-write_whole g c = breaks_first (token_text c.args.token) c.from_residual.ensures.1 c.in_err-write_whole.ensures

pub returns : goal.returns
returns g c = then_writes c.in_ok-write_whole.ensures c.write_token.ensures
