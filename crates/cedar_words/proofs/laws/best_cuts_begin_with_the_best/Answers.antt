use Rattle.cedar_words.proofs.FirstLemmas.{first_is_best}
use Rattle.cedar_words.proofs.laws.best_cuts_begin_with_the_best.Goals as goal

pub returns : goal.returns
returns c = λ tree key run text most first cuts h. first_is_best tree key run text most first cuts h
