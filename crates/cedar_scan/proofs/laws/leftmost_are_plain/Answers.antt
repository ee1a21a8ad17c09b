use Rattle.std.proofs.Common.{sym}
use Rattle.cedar_scan.proofs.PreferredLemmas.{keywords_are_leftmost, key_is_longest}
use Rattle.cedar_scan.specs.declared.kind.MatchKind.TheVariants.{LeftmostFirst, LeftmostLongest}
use Rattle.cedar_scan.proofs.laws.leftmost_are_plain.Goals as goal

pub returns-clause-longest : goal.returns-clause-longest
returns-clause-longest c = λ tree text. sym (keywords_are_leftmost LeftmostLongest tree text)

pub returns-clause-preferred : goal.returns-clause-preferred
returns-clause-preferred c = λ tree text. sym (key_is_longest LeftmostFirst tree text)
