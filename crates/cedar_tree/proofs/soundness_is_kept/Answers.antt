use Rattle.cedar_tree.proofs.TreeLemmas.{is_sound-put, is_sound-cut}
use Rattle.cedar_tree.proofs.soundness_is_kept.Goals as goal

pub returns-clause-put : goal.returns-clause-put
returns-clause-put c = λ t ordered k v key s. is_sound-put t ordered k v key s

pub returns-clause-cut : goal.returns-clause-cut
returns-clause-cut c = λ t k s. is_sound-cut t k s
