use Rattle.cedar_tree.proofs.EntryLemmas.Steps.{cut-without_leaf, cut-without_number}
use Rattle.cedar_tree.proofs.edits.cut_goes_up_its_path.Goals as goal

pub returns-clause-number : goal.returns-clause-number
returns-clause-number c = λ t l path. cut-without_number t l path

pub returns-clause-leaf : goal.returns-clause-leaf
returns-clause-leaf c = λ t w l rest bare once. cut-without_leaf t w l rest bare once
