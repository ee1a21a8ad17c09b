use Rattle.std.proofs.Common.{◌∙◌}
use Rattle.cedar_c.proofs.GroupLemmas.{plain_framed}
use Rattle.cedar_c.proofs.grouped.frame_plain.Goals as goal

pub returns : goal.returns
returns c = plain_framed c.args.size c.args.buffer.now c.copy_from_slice.new.self c.requires.room (c.copy_from_slice.ensures.after ∙ c.group_start.ensures)
