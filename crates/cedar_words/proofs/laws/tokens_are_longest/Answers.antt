use Rattle.cedar_words.proofs.TokenLemmas.{segments_longest}
use Rattle.cedar_words.proofs.laws.tokens_are_longest.Goals as goal

pub returns : goal.returns
returns c = λ tree text. segments_longest tree text
