use Rattle.cedar_tree.proofs.CutLemmas.{ascending-without_leaf, ascending-without_number}
use Rattle.cedar_tree.proofs.cuts.edits_stay_ascending.Goals as goal

pub returns-clause-leaf : goal.returns-clause-leaf
returns-clause-leaf c = λ t w l s. ascending-without_leaf t w l s

pub returns-clause-number : goal.returns-clause-number
returns-clause-number c = λ t path s. ascending-without_number t path s
