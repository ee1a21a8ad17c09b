use Rattle.cedar_model.specs.Meaning.WellFormed.{cells_in}
use Rattle.cedar_model.proofs.MeaningLemmas.Paths.{one_lead}
use Rattle.cedar_model.proofs.laws.one_path.Goals as goal

pub returns : goal.returns
returns c = λ limit table p q w hp hq e. one_lead (cells_in table) w.stands.root p q hp hq e
