use Rattle.cedar_tree.proofs.TreeLemmas.{put-put}
use Rattle.cedar_tree.proofs.later_put_stands.Goals as goal

pub returns : goal.returns
returns c = λ t ordered k v w. put-put t ordered k v w
