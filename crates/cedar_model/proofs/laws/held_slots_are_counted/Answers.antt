use Rattle.cedar_model.proofs.MeaningLemmas.HeldCount.{count_is_marked, count_is_named, count_is_used}
use Rattle.cedar_model.proofs.laws.held_slots_are_counted.Goals as goal

pub returns-clause-named : goal.returns-clause-named
returns-clause-named c = λ limit table w. count_is_named limit table w

pub returns-clause-by_default : goal.returns-clause-by_default
returns-clause-by_default c = λ limit table w layout. count_is_used limit table w layout

pub returns-clause-marked : goal.returns-clause-marked
returns-clause-marked c = λ limit table w. count_is_marked limit table w
