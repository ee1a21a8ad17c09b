use Rattle.cedarwood.proofs.queries.prefix.PrefixIterIterator.next.Given as goal

abbrev pub ghosts-uncounted_step : goal.ghosts-uncounted_step
ghosts-uncounted_step g a = record { name = a.blank.name; parts = a.blank.parts }
