use Rattle.device_lines.proofs.Figures.{byte_within, first_byte}
use Rattle.device_lines.proofs.lines.position_of.Goals as goal

pub returns : goal.returns
returns c =
    let first = first_byte c.args.byte c.args.text.now c.memchr.result c.memchr.ensures in
    record { first = first; within = byte_within c.args.byte c.args.text.now c.memchr.result first }
