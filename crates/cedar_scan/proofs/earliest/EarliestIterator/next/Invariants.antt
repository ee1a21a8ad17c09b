use Rattle.cedar_scan.proofs.earliest.EarliestIterator.next.Given as goal

abbrev pub ghosts-uncounted_first : goal.ghosts-uncounted_first
ghosts-uncounted_first g a = record { name = a.blank.name; parts = a.blank.parts }
