use Rattle.cedar_scan.proofs.build.build.Given as goal

abbrev pub ghosts-build_with : goal.ghosts-build_with
ghosts-build_with g a = record { name = a.unread.name; parts = a.unread.parts }
