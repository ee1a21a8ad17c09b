use Rattle.cedar_words.proofs.ModelCutLemmas.{cut_covers_by}
use Rattle.cedar_words.proofs.laws.model_cuts_cover.Goals as goal

pub returns : goal.returns
returns c = λ tree run text tokens is. cut_covers_by tree run text tokens 0 is
