use Rattle.cedar_words.proofs.OneLemmas.{cut_covers}
use Rattle.cedar_words.proofs.laws.cuts_cover.Goals as goal

pub returns : goal.returns
returns c = λ tree text tokens is. cut_covers tree text tokens 0 is
