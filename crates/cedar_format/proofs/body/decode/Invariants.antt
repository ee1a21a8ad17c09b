use Rattle.cedar_format.proofs.body.decode.Given as goal

abbrev pub ghosts-decode_uncounted : goal.ghosts-decode_uncounted
ghosts-decode_uncounted g a = record { name = a.blank.name; parts = a.blank.parts }
