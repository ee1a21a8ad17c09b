use Rattle.cedar_words.proofs.TokenLemmas.{segments_within}
use Rattle.cedar_words.proofs.laws.tokens_lie_within.Goals as goal

pub returns : goal.returns
returns c = λ tree text. segments_within tree text
