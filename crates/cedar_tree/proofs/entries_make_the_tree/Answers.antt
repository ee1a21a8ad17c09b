use Rattle.cedar_tree.proofs.EntryLemmas.Keys.{walk_keys, asc-walk}
use Rattle.cedar_tree.proofs.entries_make_the_tree.Goals as goal

pub returns-clause-keys : goal.returns-clause-keys
returns-clause-keys c = λ t s. walk_keys t s

pub returns-clause-tree : goal.returns-clause-tree
returns-clause-tree c = λ t s a. asc-walk t s a
