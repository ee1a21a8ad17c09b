use Rattle.cedar_tree.proofs.CutLemmas.{node_at-end}
use Rattle.cedar_tree.proofs.cuts.paths_go_on.Goals as goal

pub returns : goal.returns
returns c = λ t w l. node_at-end t w l
