use Rattle.std.proofs.Common.{◌++◌}
use Rattle.device_lines.proofs.Writing.{breaks_first, then_writes}
use Rattle.word_lists.specs.Texts.{mark_off}
use Rattle.word_lists.proofs.marked.write_mark.Goals as goal

pub returns-in_err-write_whole : goal.returns-in_err-write_whole
returns-in_err-write_whole g c = breaks_first (c.args.word.now ++ mark_off) c.from_residual.ensures.1 c.in_err-write_whole.ensures

pub returns-in_err-write_whole-2 : goal.returns-in_err-write_whole-2
returns-in_err-write_whole-2 g c =
    then_writes c.in_ok-write_whole.ensures (breaks_first mark_off c.from_residual-in_err-write_whole-2.ensures.1 c.in_err-write_whole-2.ensures)

pub returns : goal.returns
returns g c = then_writes c.in_ok-write_whole.ensures (then_writes c.in_ok-write_whole-2.ensures c.write_whole-3.ensures)
