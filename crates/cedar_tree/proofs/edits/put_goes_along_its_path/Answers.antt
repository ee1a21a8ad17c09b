use Rattle.cedar_tree.proofs.EntryLemmas.Steps.{put-with_leaf, put-with_number}
use Rattle.cedar_tree.proofs.edits.put_goes_along_its_path.Goals as goal

pub returns-clause-leaf : goal.returns-clause-leaf
returns-clause-leaf c = λ t ordered w l rest v there new. put-with_leaf t ordered w l rest v there new

pub returns-clause-number : goal.returns-clause-number
returns-clause-number c = λ t ordered l path v there. put-with_number t ordered l path v there
