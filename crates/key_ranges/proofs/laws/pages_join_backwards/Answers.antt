use Rattle.key_ranges.proofs.EntryRangeLemmas.{pages_fit_backwards}
use Rattle.key_ranges.proofs.laws.pages_join_backwards.Goals as goal

pub returns : goal.returns
returns c = pages_fit_backwards
