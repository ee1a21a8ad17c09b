use Rattle.cedar_scan.proofs.EndOrderLemmas.{ends_ascend}
use Rattle.cedar_scan.proofs.OccurrenceLemmas.{exactly_keys}
use Rattle.cedar_scan.proofs.PlainLemmas.{ends_permute}
use Rattle.cedar_scan.proofs.laws.overlapping_are_all_keys.Goals as goal

pub returns-clause-same : goal.returns-clause-same
returns-clause-same c = λ tree text. ends_permute tree text

pub returns-clause-exact : goal.returns-clause-exact
returns-clause-exact c = λ tree text s. exactly_keys tree text s

pub returns-clause-order : goal.returns-clause-order
returns-clause-order c = λ tree text. ends_ascend tree text
