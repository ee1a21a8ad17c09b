use Rattle.cedar_tree.proofs.TreeLemmas.{number_at-cut_same, number_at-cut_other}
use Rattle.cedar_tree.proofs.cut_is_read_back.Goals as goal

pub returns-clause-there : goal.returns-clause-there
returns-clause-there c = λ t k s. number_at-cut_same t k s

pub returns-clause-elsewhere : goal.returns-clause-elsewhere
returns-clause-elsewhere c = λ t k q s other. number_at-cut_other t k q s other
