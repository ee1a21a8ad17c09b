use Rattle.cedar_model.proofs.MeaningLemmas.OneTree.{one_tree}
use Rattle.cedar_model.proofs.MeaningLemmas.TreeOf.{tree_of_is}
use Rattle.cedar_model.proofs.laws.one_tree.Goals as goal

pub returns-clause-only : goal.returns-clause-only
returns-clause-only c = λ size slots f g a b. one_tree size slots f g a b

pub returns-clause-read : goal.returns-clause-read
returns-clause-read c = λ table f h. tree_of_is table f h
