use Rattle.cedar_tree.proofs.EntryLemmas.Changes.{walk-put, walk-cut}
use Rattle.cedar_tree.proofs.other_entries_stay.Goals as goal

pub returns-clause-put : goal.returns-clause-put
returns-clause-put c = λ t ordered k v p s. walk-put t ordered k v p s

pub returns-clause-cut : goal.returns-clause-cut
returns-clause-cut c = λ t k s. walk-cut t k s
