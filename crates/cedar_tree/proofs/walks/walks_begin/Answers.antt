use Rattle.cedar_tree.proofs.VisitLemmas.{node_up_is, predict_visits, walk_visits}
use Rattle.cedar_tree.proofs.walks.walks_begin.Goals as goal

pub returns-clause-entries : goal.returns-clause-entries
returns-clause-entries c = λ t. walk_visits t

pub returns-clause-predicted : goal.returns-clause-predicted
returns-clause-predicted c = λ t q s. predict_visits t q s

pub returns-clause-nodes : goal.returns-clause-nodes
returns-clause-nodes c = λ t up. node_up_is t up
