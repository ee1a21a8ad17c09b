use Rattle.std.proofs.Common.{length}
use Rattle.plain_tree.proofs.node.+branch.Given as goal

abbrev pub decreases-branch : goal.decreases-branch
decreases-branch g l = length l.path.now
