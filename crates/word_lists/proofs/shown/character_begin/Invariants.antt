use Rattle.word_lists.proofs.shown.character_begin.Given as goal

abbrev pub decreases-loop-begin : goal.decreases-loop-begin
decreases-loop-begin l = l.begin
