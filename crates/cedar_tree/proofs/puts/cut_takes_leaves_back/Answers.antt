use Rattle.cedar_tree.proofs.EntryLemmas.Leaves.{cut-with_leaf, cut_at_bare, cut_past_bare}
use Rattle.cedar_tree.proofs.puts.cut_takes_leaves_back.Goals as goal

pub returns-clause-leaf : goal.returns-clause-leaf
returns-clause-leaf c = λ t ordered w l rest there new. cut-with_leaf t ordered w l rest there new

pub returns-clause-past : goal.returns-clause-past
returns-clause-past c = λ t w rest bare. cut_past_bare t w rest bare

pub returns-clause-sound : goal.returns-clause-sound
returns-clause-sound c = λ t w s bare. cut_at_bare t w s bare
