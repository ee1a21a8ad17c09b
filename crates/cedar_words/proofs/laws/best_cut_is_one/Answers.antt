use Rattle.cedar_words.proofs.OneLemmas.{best_same}
use Rattle.cedar_words.proofs.laws.best_cut_is_one.Goals as goal

pub returns : goal.returns
returns c = λ tree key run text one other a b. best_same tree key run text one other a b
