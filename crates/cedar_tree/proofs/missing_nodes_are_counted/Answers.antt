use Rattle.cedar_tree.proofs.EntryLemmas.Prefixes.{missing-held, missing-cut, missing-fronts, front_of_node, node_of_held}
use Rattle.cedar_tree.proofs.missing_nodes_are_counted.Goals as goal

pub returns-clause-held : goal.returns-clause-held
returns-clause-held c = λ t k v h. missing-held t k v h

pub returns-clause-cut : goal.returns-clause-cut
returns-clause-cut c = λ t k s. missing-cut t k s

pub returns-clause-fronts : goal.returns-clause-fronts
returns-clause-fronts c = λ t k s. missing-fronts t k s

pub returns-clause-nodes : goal.returns-clause-nodes
returns-clause-nodes c = λ t p s long. (front_of_node t p s long, node_of_held t p)
