use Rattle.best_few.proofs.OrderLemmas.{order_permutes, ordered}
use Rattle.best_few.proofs.laws.order_is_an_order.Goals as goal

pub returns-clause-same : goal.returns-clause-same
returns-clause-same c = order_permutes

pub returns-clause-sorted : goal.returns-clause-sorted
returns-clause-sorted c = ordered
