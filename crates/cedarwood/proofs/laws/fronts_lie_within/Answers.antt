use Rattle.cedarwood.proofs.LongestLemmas.{fronts_within}
use Rattle.cedarwood.proofs.laws.fronts_lie_within.Goals as goal

pub returns : goal.returns
returns c = λ tree text. fronts_within tree text
