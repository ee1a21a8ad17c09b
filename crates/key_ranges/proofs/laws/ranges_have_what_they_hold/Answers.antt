use Rattle.cedar_tree.specs.Queries.{walk}
use Rattle.key_ranges.specs.Spans.{holds}
use Rattle.key_ranges.proofs.EntryRangeLemmas.{same_tests}
use Rattle.key_ranges.proofs.laws.ranges_have_what_they_hold.Goals as goal

pub returns : goal.returns
returns c tree span test is = same_tests (holds span) test (walk tree) is
