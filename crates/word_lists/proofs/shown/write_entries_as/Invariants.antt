use Rattle.std.proofs.Common.{length}
use Rattle.word_lists.proofs.shown.write_entries_as.Given as goal

abbrev pub decreases-loop-key : goal.decreases-loop-key
decreases-loop-key g l = length l.entries
