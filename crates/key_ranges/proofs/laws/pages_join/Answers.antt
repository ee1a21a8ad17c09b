use Rattle.key_ranges.proofs.EntryRangeLemmas.{pages_fit}
use Rattle.key_ranges.proofs.laws.pages_join.Goals as goal

pub returns : goal.returns
returns c = pages_fit
