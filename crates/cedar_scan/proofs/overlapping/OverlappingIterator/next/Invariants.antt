use Rattle.cedar_scan.proofs.overlapping.OverlappingIterator.next.Given as goal

abbrev pub ghosts-uncounted_next : goal.ghosts-uncounted_next
ghosts-uncounted_next g a = record { name = a.blank.name; parts = a.blank.parts }
