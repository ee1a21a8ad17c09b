use Rattle.key_ranges.proofs.EntryRangeLemmas.{prefix_entries}
use Rattle.key_ranges.proofs.laws.prefix_ranges_have_their_entries.Goals as goal

pub returns : goal.returns
returns c = prefix_entries
