use Rattle.byte_automata.proofs.DecodingLemmas.{reads_only_text}
use Rattle.byte_automata.proofs.laws.only_utf8_is_read.Goals as goal

pub returns : goal.returns
returns c = reads_only_text
