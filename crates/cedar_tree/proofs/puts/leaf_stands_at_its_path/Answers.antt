use Rattle.cedar_tree.proofs.EntryLemmas.Leaves.{ascending-with_leaf, leaf_is_bare, number_at-with_leaf, path_of_leaf}
use Rattle.cedar_tree.proofs.puts.leaf_stands_at_its_path.Goals as goal

pub returns-clause-path : goal.returns-clause-path
returns-clause-path c = λ t ordered w l there new. path_of_leaf t ordered w l there new

pub returns-clause-bare : goal.returns-clause-bare
returns-clause-bare c = λ t ordered w l there new. leaf_is_bare t ordered w l there new

pub returns-clause-numbers : goal.returns-clause-numbers
returns-clause-numbers c = λ t ordered w l q there new. number_at-with_leaf t ordered w l q there new

pub returns-clause-ascending : goal.returns-clause-ascending
returns-clause-ascending c = λ t w l there new a. ascending-with_leaf t w l there new a
