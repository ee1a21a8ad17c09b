use Rattle.cedar_words.proofs.SpotLemmas.{keywords_leftmost}
use Rattle.cedar_words.proofs.laws.keywords_are_leftmost.Goals as goal

pub returns : goal.returns
returns c = λ tree text. keywords_leftmost tree text
