use Rattle.cedar_tree.proofs.TreeLemmas.{put_held, cut_not_held}
use Rattle.cedar_tree.proofs.nothing_changes.Goals as goal

pub returns-clause-put : goal.returns-clause-put
returns-clause-put c = λ t ordered k v h. put_held t ordered k v h

pub returns-clause-cut : goal.returns-clause-cut
returns-clause-cut c = λ t k s h. cut_not_held t k s h
