use Rattle.std.proofs.Common.{◌++◌, ℤ, ap, w32}
use Rattle.std.proofs.lemmas.Int.{to_z-of_z}
use Rattle.device_lines.proofs.Writing.{breaks_first, then_writes, writes_same}
use Rattle.word_lists.specs.Lines.{entry_line}
use Rattle.word_lists.proofs.pairs.write_signed.Goals as goal

pub returns-in_err-write_whole : goal.returns-in_err-write_whole
returns-in_err-write_whole g c = breaks_first (entry_line (c.args.key.now, c.args.value)) c.from_residual.ensures.1 c.in_err-write_whole.ensures

pub returns : goal.returns
returns g c =
    writes_same (ap (λ (v : ℤ). c.args.sign.now ++ entry_line (c.args.key.now, v)) (to_z-of_z w32 c.args.value c.ranges.value))
    (then_writes c.in_ok-write_whole.ensures c.write_entry.ensures)
