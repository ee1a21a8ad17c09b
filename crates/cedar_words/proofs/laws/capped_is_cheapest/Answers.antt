use Rattle.cedar_words.proofs.CutLemmas.{capped_cheapest}
use Rattle.cedar_words.proofs.laws.capped_is_cheapest.Goals as goal

pub returns : goal.returns
returns c = λ tree unknown text tokens is least ahead low. capped_cheapest tree unknown text tokens is least ahead low
