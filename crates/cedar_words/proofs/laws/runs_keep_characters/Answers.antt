use Rattle.cedar_words.proofs.RunLemmas.{character_keeps, class_keeps, only_keeps}
use Rattle.cedar_words.proofs.laws.runs_keep_characters.Goals as goal

pub returns-clause-characters : goal.returns-clause-characters
returns-clause-characters c = λ text cost. character_keeps text cost

pub returns-clause-classes : goal.returns-clause-classes
returns-clause-classes c = λ text alike most cost. class_keeps text alike most cost

pub returns-clause-only : goal.returns-clause-only
returns-clause-only c = λ text run keeps. only_keeps text run keeps
