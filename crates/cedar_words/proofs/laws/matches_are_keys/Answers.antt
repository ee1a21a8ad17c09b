use Rattle.cedar_words.proofs.SpotLemmas.{matches_exact}
use Rattle.cedar_words.proofs.laws.matches_are_keys.Goals as goal

pub returns : goal.returns
returns c = λ tree text found. matches_exact tree text found
