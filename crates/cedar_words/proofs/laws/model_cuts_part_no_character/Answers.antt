use Rattle.cedar_words.proofs.RunLemmas.{cut_whole}
use Rattle.cedar_words.proofs.laws.model_cuts_part_no_character.Goals as goal

pub returns : goal.returns
returns c = λ tree run text tokens utf8 keys keep is. cut_whole tree run text tokens utf8 keys keep is
