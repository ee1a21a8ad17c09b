use Rattle.std.proofs.Common.{◌≡◌, true}
use Rattle.cedar_tree.proofs.EntryLemmas.Built.{is_sound-asc, ascending-asc, number_at-asc, numbers-asc}
use Rattle.cedar_tree.proofs.asc_is_built.Goals as goal

pub returns-clause-sound : goal.returns-clause-sound
returns-clause-sound c = λ pairs keys. is_sound-asc pairs keys

pub returns-clause-ascending : goal.returns-clause-ascending
returns-clause-ascending c = λ pairs. ascending-asc pairs

pub returns-clause-holds : goal.returns-clause-holds
returns-clause-holds c = λ pairs k. number_at-asc pairs k

pub returns-clause-numbers : goal.returns-clause-numbers
returns-clause-numbers c = λ test pairs numbers. numbers-asc (λ w. test w ≡ true) pairs numbers
