use Rattle.cedar_tree.proofs.EntryLemmas.Prefixes.{used-put, used-cut}
use Rattle.cedar_tree.proofs.slot_counts.Goals as goal

pub returns-clause-put : goal.returns-clause-put
returns-clause-put c = λ t ordered k v. used-put t ordered k v

pub returns-clause-cut : goal.returns-clause-cut
returns-clause-cut c = λ t k. used-cut t k
