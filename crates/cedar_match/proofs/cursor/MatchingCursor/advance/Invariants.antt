use Rattle.cedar_match.proofs.cursor.MatchingCursor.advance.Given as goal

abbrev pub ghosts-advance_uncounted : goal.ghosts-advance_uncounted
ghosts-advance_uncounted g a = record { name = a.blank.name; parts = a.blank.parts }
