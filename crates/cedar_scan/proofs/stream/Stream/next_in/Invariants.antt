use Rattle.cedar_scan.proofs.stream.Stream.next_in.Given as goal

abbrev pub ghosts-uncounted_in : goal.ghosts-uncounted_in
ghosts-uncounted_in g a = record { name = a.blank.name; parts = a.blank.parts }
