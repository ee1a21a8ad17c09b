use Rattle.cedar_tree.proofs.EntryLemmas.Extensions.{key_before_extension}
use Rattle.cedar_tree.proofs.keys_come_before_extensions.Goals as goal

pub returns : goal.returns
returns c = λ t k rest v w s long h g. key_before_extension t k rest v w s long h g
