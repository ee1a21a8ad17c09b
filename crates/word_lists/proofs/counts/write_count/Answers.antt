use Rattle.std.proofs.Common.{ap}
use Rattle.device_lines.proofs.Writing.{breaks_all, writes_all, writes_same}
use Rattle.word_lists.specs.Lines.{count_line}
use Rattle.word_lists.proofs.counts.write_count.Goals as goal

pub returns-in_err-write_figure-clause-writes : goal.returns-in_err-write_figure-clause-writes
returns-in_err-write_figure-clause-writes g c = writes_same (ap count_line c.count_prefix_bytes-count.ensures) (breaks_all c.from_residual.ensures.1 c.in_err-write_figure.ensures)

pub returns-clause-writes : goal.returns-clause-writes
returns-clause-writes g c = writes_same (ap count_line c.count_prefix_bytes-count.ensures) (writes_all c.in_ok-write_figure.ensures)
