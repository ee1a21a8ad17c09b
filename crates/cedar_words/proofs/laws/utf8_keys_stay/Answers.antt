use Rattle.cedar_words.proofs.CharacterLemmas.{cut_utf8, empty_utf8, put_utf8, stored_utf8}
use Rattle.cedar_words.proofs.laws.utf8_keys_stay.Goals as goal

pub returns-clause-none : goal.returns-clause-none
returns-clause-none c = empty_utf8

pub returns-clause-stored : goal.returns-clause-stored
returns-clause-stored c = λ tree ordered key number keys utf8. put_utf8 tree ordered key number keys utf8

pub returns-clause-built : goal.returns-clause-built
returns-clause-built c = λ state pairs keys utf8. stored_utf8 state pairs keys utf8

pub returns-clause-erased : goal.returns-clause-erased
returns-clause-erased c = λ tree key sound keys. cut_utf8 tree key sound keys
