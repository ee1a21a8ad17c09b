use Rattle.cedar_tree.proofs.FrontLemmas.{held_from_front, front_from_held, front_ascends}
use Rattle.cedar_tree.proofs.front_is_exact.Goals as goal

pub returns-clause-has : goal.returns-clause-has
returns-clause-has c = λ t q v n. (held_from_front t q v n, λ h. front_from_held t q v n h.0 h.1)

pub returns-clause-ascends : goal.returns-clause-ascends
returns-clause-ascends c = λ t q. front_ascends t q
