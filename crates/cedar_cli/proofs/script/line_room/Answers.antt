use Rattle.std.proofs.lemmas.Result.{err_from_is_err_and}
use Rattle.std.proofs.Common.{arith}
use Rattle.cedar_cli.proofs.Faults.{no_value}
use Rattle.cedar_cli.proofs.script.line_room.Goals as goal

pub returns-in_err-line : goal.returns-in_err-line
returns-in_err-line g c =
    let p = err_from_is_err_and c.from_residual.result c.from_residual.ensures.1 in
    record { empty = no_value _ c.from_residual.result p.0 p.1; room = no_value _ c.from_residual.result p.0 p.1 }

pub returns-in_err-key : goal.returns-in_err-key
returns-in_err-key g c =
    let p = err_from_is_err_and c.from_residual-in_err-key.result c.from_residual-in_err-key.ensures.1 in
    record { empty = no_value _ c.from_residual-in_err-key.result p.0 p.1; room = no_value _ c.from_residual-in_err-key.result p.0 p.1 }

pub returns : goal.returns
returns g c = record {
  empty = c.in_ok-line.ensures.items;
  room = (c.in_ok-line.ensures.capacity, let long = c.in_ok-key.ensures in omega (arith, long));
}
