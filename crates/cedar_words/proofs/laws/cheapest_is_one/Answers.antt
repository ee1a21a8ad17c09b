use Rattle.cedar_words.proofs.OneLemmas.{cheapest_same}
use Rattle.cedar_words.proofs.laws.cheapest_is_one.Goals as goal

pub returns : goal.returns
returns c = λ tree unknown text one other first second. cheapest_same tree unknown text one other first second
