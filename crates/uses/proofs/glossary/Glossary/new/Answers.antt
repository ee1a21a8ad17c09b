use Rattle.std.proofs.Common.{subst, sym}
use Rattle.cedar_words.specs.Words.{HasUtf8Keys}
use Rattle.cedar_words.proofs.CharacterLemmas.{empty_utf8}
use Rattle.uses.proofs.glossary.Glossary.new.Goals as goal

pub invariant_of-result : goal.invariant_of-result
invariant_of-result c = subst HasUtf8Keys (sym c.in_ok-terms.ensures.made.tree) empty_utf8
