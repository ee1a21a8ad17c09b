use Rattle.cedar_model.specs.Table.TableFields.{size_of}
use Rattle.cedar_model.specs.Meaning.WellFormed.{cells_in, tree_of}
use Rattle.cedar_model.proofs.MeaningLemmas.HeldCount.{named_held}
use Rattle.cedar_model.proofs.laws.held_slots_are_named.Goals as goal

pub returns : goal.returns
returns c = λ limit table s w. named_held (size_of table) (cells_in table) (tree_of table).children w.stands s
