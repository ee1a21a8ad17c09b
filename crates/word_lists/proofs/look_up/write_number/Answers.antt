use Rattle.std.proofs.Common.{ap}
use Rattle.device_lines.proofs.Writing.{breaks_all, writes_all, writes_same}
use Rattle.word_lists.specs.Lines.{found_line}
use Rattle.word_lists.proofs.look_up.write_number.Goals as goal

pub returns-in_err-write_found-clause-writes : goal.returns-in_err-write_found-clause-writes
returns-in_err-write_found-clause-writes g c =
    writes_same (ap (found_line c.args.word.now) c.get_bytes-number.ensures) (breaks_all c.from_residual.ensures.1 c.in_err-write_found.ensures)

pub returns-clause-writes : goal.returns-clause-writes
returns-clause-writes g c = writes_same (ap (found_line c.args.word.now) c.get_bytes-number.ensures) (writes_all c.in_ok-write_found.ensures)
