use Rattle.cedar_words.proofs.ModelCutLemmas.{best_cheapest}
use Rattle.cedar_words.proofs.laws.best_cut_is_cheapest.Goals as goal

pub returns : goal.returns
returns c = λ tree key run text tokens best low. best_cheapest tree key run text tokens best low
