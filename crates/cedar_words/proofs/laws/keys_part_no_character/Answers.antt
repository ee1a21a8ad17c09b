use Rattle.cedar_words.proofs.CharacterLemmas.{keys_whole, keywords_whole, later_whole}
use Rattle.cedar_words.proofs.laws.keys_part_no_character.Goals as goal

pub returns-clause-keys : goal.returns-clause-keys
returns-clause-keys c = λ tree text found utf8 keys is. keys_whole tree text found utf8 keys is

pub returns-clause-keywords : goal.returns-clause-keywords
returns-clause-keywords c = λ tree text utf8 keys. keywords_whole tree text utf8 keys

pub returns-clause-later : goal.returns-clause-later
returns-clause-later c = λ tree text place utf8 keys. later_whole tree text place utf8 keys
