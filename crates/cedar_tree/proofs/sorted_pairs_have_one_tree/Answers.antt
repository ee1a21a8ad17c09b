use Rattle.cedar_tree.proofs.EntryLemmas.Pairs.{asc_is_tree_of, one_tree_of}
use Rattle.cedar_tree.proofs.sorted_pairs_have_one_tree.Goals as goal

pub returns-clause-exists : goal.returns-clause-exists
returns-clause-exists c = λ pairs keys order. asc_is_tree_of pairs keys order

pub returns-clause-unique : goal.returns-clause-unique
returns-clause-unique c = λ pairs t u a b. one_tree_of pairs t u a b
