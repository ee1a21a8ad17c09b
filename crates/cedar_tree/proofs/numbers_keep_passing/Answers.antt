use Rattle.std.proofs.Common.{◌≡◌, true}
use Rattle.cedar_tree.proofs.TreeLemmas.{all-put, all-cut, all-number_at}
use Rattle.cedar_tree.proofs.numbers_keep_passing.Goals as goal

pub returns-clause-put : goal.returns-clause-put
returns-clause-put c = λ test t ordered k v passes all. all-put (λ w. test w ≡ true) t ordered k v passes all

pub returns-clause-cut : goal.returns-clause-cut
returns-clause-cut c = λ test t k all. all-cut (λ w. test w ≡ true) t k all

pub returns-clause-found : goal.returns-clause-found
returns-clause-found c = λ test t k s all. all-number_at (λ w. test w ≡ true) t k s all
