use Rattle.cedar_tree.proofs.VisitLemmas.{goes_down, goes_past_leaf, goes_right, goes_up}
use Rattle.cedar_tree.proofs.walks.walks_go_on.Goals as goal

pub returns-clause-down : goal.returns-clause-down
returns-clause-down c = λ t up l n below rest is. goes_down t up l n below rest is

pub returns-clause-leaf : goal.returns-clause-leaf
returns-clause-leaf c = λ t up is. goes_past_leaf t up is

pub returns-clause-right : goal.returns-clause-right
returns-clause-right c = λ t up l m n below rest s is. goes_right t up l m n below rest s is

pub returns-clause-up : goal.returns-clause-up
returns-clause-up c = λ t up l is. goes_up t up l is
