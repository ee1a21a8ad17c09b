use Rattle.uses.proofs.counted.search.Given as goal

abbrev pub ghosts-search_in : goal.ghosts-search_in
ghosts-search_in a = record { name = a.blank.name; parts = a.blank.parts }
