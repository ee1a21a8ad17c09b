use Rattle.cedar_tree.proofs.EntryLemmas.Prefixes.{length-prefixes-put, length-prefixes-cut}
use Rattle.cedar_tree.proofs.prefix_counts.Goals as goal

pub returns-clause-put : goal.returns-clause-put
returns-clause-put c = λ t ordered k v. length-prefixes-put t ordered k v

pub returns-clause-cut : goal.returns-clause-cut
returns-clause-cut c = λ t k. length-prefixes-cut t k
