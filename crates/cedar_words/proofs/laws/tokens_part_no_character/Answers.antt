use Rattle.cedar_words.proofs.CharacterLemmas.{cut_parts, later_parts, segments_parts}
use Rattle.cedar_words.proofs.laws.tokens_part_no_character.Goals as goal

pub returns-clause-tokens : goal.returns-clause-tokens
returns-clause-tokens c = λ tree text utf8 keys. segments_parts tree text utf8 keys

pub returns-clause-cuts : goal.returns-clause-cuts
returns-clause-cuts c = λ tree text tokens utf8 keys is. cut_parts tree text tokens utf8 keys is

pub returns-clause-later : goal.returns-clause-later
returns-clause-later c = λ tree text place utf8 keys. later_parts tree text place utf8 keys
