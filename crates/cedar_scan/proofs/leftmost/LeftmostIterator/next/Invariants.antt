use Rattle.cedar_scan.proofs.leftmost.LeftmostIterator.next.Given as goal

abbrev pub ghosts-uncounted_keyword : goal.ghosts-uncounted_keyword
ghosts-uncounted_keyword g a = record { name = a.blank.name; parts = a.blank.parts }
