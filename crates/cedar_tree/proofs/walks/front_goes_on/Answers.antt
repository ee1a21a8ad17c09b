use Rattle.cedar_tree.proofs.FrontFromLemmas.{front_begins, front_ends, front_more, front_off, node_more, front_short, nodes_gone}
use Rattle.cedar_tree.proofs.walks.front_goes_on.Goals as goal

pub returns-clause-begins : goal.returns-clause-begins
returns-clause-begins c = λ t q. front_begins t q

pub returns-clause-more : goal.returns-clause-more
returns-clause-more c = λ t q n h. front_more t q n h

pub returns-clause-node : goal.returns-clause-node
returns-clause-node c = λ t q n h. node_more t q n h

pub returns-clause-off : goal.returns-clause-off
returns-clause-off c = λ t q n h missing. front_off t q n h missing

pub returns-clause-ends : goal.returns-clause-ends
returns-clause-ends c = λ t q. front_ends t q

pub returns-clause-gone : goal.returns-clause-gone
returns-clause-gone c = λ t q n h missing. nodes_gone t q n h missing

pub returns-clause-few : goal.returns-clause-few
returns-clause-few c = λ t q n. front_short t q n
