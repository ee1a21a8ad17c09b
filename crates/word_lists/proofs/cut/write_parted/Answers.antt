use Rattle.std.proofs.Common.{◌++◌, List, ℕ, ap, ap₂}
use Rattle.device_lines.proofs.Writing.{breaks_first, then_writes, writes_same}
use Rattle.word_lists.specs.Texts.{text_part}
use Rattle.word_lists.proofs.cut.write_parted.Goals as goal

pub returns-in_err-write_whole : goal.returns-in_err-write_whole
returns-in_err-write_whole g c =
    let part = text_part c.args.text.now c.args.token.0 c.args.token.1 in
    writes_same (ap (λ (before : List ℕ). before ++ part) c.parting.ensures) (breaks_first part c.from_residual.ensures.1 c.in_err-write_whole.ensures)

pub returns : goal.returns
returns g c = writes_same (ap₂ (λ (before part : List ℕ). before ++ part) c.parting.ensures c.part.ensures) (then_writes c.in_ok-write_whole.ensures c.write_whole-2.ensures)
