use Rattle.cedar_model.proofs.MeaningLemmas.FullBlocks.{full_blocks_counted}
use Rattle.cedar_model.proofs.laws.full_blocks_are_counted.Goals as goal

pub returns : goal.returns
returns c = λ limit table w layout full. full_blocks_counted limit table w layout full
