use Rattle.cedar_words.proofs.TokenLemmas.{tokens_next}
use Rattle.cedar_words.proofs.laws.tokens_go_on.Goals as goal

pub returns-clause-more : goal.returns-clause-more
returns-clause-more c = λ tree place text some found is. tokens_next tree place text some found is
