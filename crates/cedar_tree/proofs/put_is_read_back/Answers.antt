use Rattle.cedar_tree.proofs.TreeLemmas.{number_at-put_same, number_at-put_other}
use Rattle.cedar_tree.proofs.put_is_read_back.Goals as goal

pub returns-clause-there : goal.returns-clause-there
returns-clause-there c = λ t ordered k v. number_at-put_same t ordered k v

pub returns-clause-elsewhere : goal.returns-clause-elsewhere
returns-clause-elsewhere c = λ t ordered k v q other. number_at-put_other t ordered k v q other
