use Rattle.std.proofs.Common.{◌++◌}
use Rattle.cedar_cli.specs.Script.{colon_field, number_text}
use Rattle.device_lines.proofs.Writing.{breaks_first, then_writes}
use Rattle.cedar_cli.proofs.answers.write_token.Goals as goal

pub returns-in_err-write_field : goal.returns-in_err-write_field
returns-in_err-write_field g c = breaks_first (colon_field c.args.token.1 ++ number_text c.args.token.2) c.from_residual.ensures.1 c.in_err-write_field.ensures

pub returns-in_err-write_field-2 : goal.returns-in_err-write_field-2
returns-in_err-write_field-2 g c =
    then_writes c.in_ok-write_field.ensures (breaks_first (number_text c.args.token.2) c.from_residual-in_err-write_field-2.ensures.1 c.in_err-write_field-2.ensures)

pub returns : goal.returns
returns g c = then_writes c.in_ok-write_field.ensures (then_writes c.in_ok-write_field-2.ensures c.write_value.ensures)
