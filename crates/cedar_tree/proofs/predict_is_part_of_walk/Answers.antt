use Rattle.cedar_tree.proofs.PredictLemmas.{held_from_predict, predict_from_held, predict_part, predict-node, predict-empty}
use Rattle.cedar_tree.proofs.predict_is_part_of_walk.Goals as goal

pub returns-clause-has : goal.returns-clause-has
returns-clause-has c = λ t q v m s. (held_from_predict t q v m s, predict_from_held t q v m s)

pub returns-clause-part : goal.returns-clause-part
returns-clause-part c = λ t q. predict_part t q

pub returns-clause-node : goal.returns-clause-node
returns-clause-node c = λ t q s. predict-node t q s

pub returns-clause-whole : goal.returns-clause-whole
returns-clause-whole c = λ t. predict-empty t
