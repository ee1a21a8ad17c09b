use Rattle.cedar_tree.proofs.CutLemmas.{node_at-without_leaf, node_at-without_number}
use Rattle.cedar_tree.proofs.cuts.cut_nodes_stay.Goals as goal

pub returns-clause-leaf : goal.returns-clause-leaf
returns-clause-leaf c = λ t w l there. node_at-without_leaf t w l there

pub returns-clause-number : goal.returns-clause-number
returns-clause-number c = λ t l path there. node_at-without_number t l path there
