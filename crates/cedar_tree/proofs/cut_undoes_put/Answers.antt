use Rattle.cedar_tree.proofs.TreeLemmas.{cut-put}
use Rattle.cedar_tree.proofs.EntryLemmas.Changes.{cut-put_any}
use Rattle.cedar_tree.proofs.cut_undoes_put.Goals as goal

pub returns-clause-new : goal.returns-clause-new
returns-clause-new c = λ t ordered k v s h. cut-put t ordered k v s h

pub returns-clause-any : goal.returns-clause-any
returns-clause-any c = λ t ordered k v s. cut-put_any t ordered k v s
