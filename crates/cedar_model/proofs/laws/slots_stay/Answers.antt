use Rattle.cedar_model.proofs.MeaningLemmas.SameMarks.{slots_stay}
use Rattle.cedar_model.proofs.laws.slots_stay.Goals as goal

pub returns : goal.returns
returns c = λ limit before after w v tree k. slots_stay limit before after w v tree k
