use Rattle.cedar_model.proofs.UpdateLemmas.MarkedTree.{marks_read}
use Rattle.cedar_model.proofs.laws.marks_are_read.Goals as goal

pub returns : goal.returns
returns c = λ limit table w well. marks_read limit table well w
