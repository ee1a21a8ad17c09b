use Rattle.cedar_match.proofs.entries.MatchingEntriesIterator.next.Given as goal

abbrev pub ghosts-next_item : goal.ghosts-next_item
ghosts-next_item g a = record { name = a.blank.name; parts = a.blank.parts }
