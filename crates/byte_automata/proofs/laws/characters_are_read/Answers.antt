use Rattle.byte_automata.proofs.EncodingLemmas.{reads_characters}
use Rattle.byte_automata.proofs.laws.characters_are_read.Goals as goal

pub returns : goal.returns
returns c = reads_characters
