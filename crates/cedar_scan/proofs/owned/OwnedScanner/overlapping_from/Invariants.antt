use Rattle.cedar_scan.proofs.owned.OwnedScanner.overlapping_from.Given as goal

abbrev pub ghosts-uncounted_state : goal.ghosts-uncounted_state
ghosts-uncounted_state g a = record { name = a.blank.name; parts = a.blank.parts }
